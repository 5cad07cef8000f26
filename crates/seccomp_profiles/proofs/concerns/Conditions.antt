-- For `comparison` and `lowered_profile`: conditions of the library, beside those of an entry.
use Rattle.std.proofs.Common.{◌↔◌, ℕ, List, [], ◌∷◌, All, Option, Some, None, map, sym, Vec, Global}
use Rattle.std.proofs.lemmas.List.Elements.{All-cons, All-head, All-nil, All-tail}
use Rattle.seccompiler.specs.declared.backend.SeccompCmpArgLen.{SeccompCmpArgLen}
use Rattle.seccompiler.specs.Machine.{argument_at}
use Rattle.seccompiler.specs.Policy.{Compares, Condition, Holds, operator_part, part_of, RuleHolds}
use Rattle.seccomp_profiles.specs.declared.types.Argument.{Argument}
use Rattle.seccomp_profiles.specs.declared.types.Operator.{Operator}
use Rattle.seccomp_profiles.specs.declared.types.Operator.TheVariants.{Ne, Lt, Le, Eq, Ge, Gt, MaskedEq}
use Rattle.seccomp_profiles.specs.Decision.{AreMet, all_met, one_met, IsMet, Meets}
use Rattle.seccomp_profiles.specs.Conditions.{AreConditionsIn, alone, compared_by, condition_of, together}

-- So does a condition, on so much of the argument.
pub condition_holds : (len : SeccompCmpArgLen) (r : List ℕ) (a : Argument) → Holds (condition_of len a) r ↔ IsMet len r a
condition_holds len r a = by_operator a.operator a.value a.value_two (argument_at r a.index)
  where
    by_operator : (o : Operator) (v w x : ℕ)
        → Compares (operator_part len (compared_by o v w).0) (part_of len x) (part_of len (compared_by o v w).1)
        ↔ Meets o (part_of len x) (part_of len v) (part_of len w)
    by_operator Ne v w x = (λ is. is, λ is. is)
    by_operator Lt v w x = (λ is. is, λ is. is)
    by_operator Le v w x = (λ is. is, λ is. is)
    by_operator Eq v w x = (λ is. is, λ is. is)
    by_operator Ge v w x = (λ is. is, λ is. is)
    by_operator Gt v w x = (λ is. is, λ is. is)
    by_operator MaskedEq v w x = (λ is. is, λ is. is)

-- The conditions of the lists.
abbrev pub lists_of : List (Vec Condition Global) → List (List Condition)
lists_of all = map (λ (cs : Vec Condition Global). cs.items) all

-- All conditions hold where all are met.
all_hold : (len : SeccompCmpArgLen) (r : List ℕ) (args : List Argument) → RuleHolds (map (condition_of len) args) r ↔ All (IsMet len r) args
all_hold len r [] = (λ all. All-nil (IsMet len r), λ all. All-nil (λ c. Holds c r))
all_hold len r (a ∷ args) =
    let here = condition_holds len r a in
    let rest = all_hold len r args in (
      λ all. All-cons (IsMet len r) a args (here.0 (All-head (λ c. Holds c r) (condition_of len a) (map (condition_of len) args) all))
          (rest.0 (All-tail (λ c. Holds c r) (condition_of len a) (map (condition_of len) args) all)),
      λ all. All-cons (λ c. Holds c r) (condition_of len a) (map (condition_of len) args) (here.1 (All-head (IsMet len r) a args all))
          (rest.1 (All-tail (IsMet len r) a args all)),
    )

-- A record that meets conditions of an entry meets the entry's.
pub from_conditions : (len : SeccompCmpArgLen) (r : List ℕ) (args : List Argument) (o : Option ℕ) (cs : List Condition)
    → AreConditionsIn len args o cs → RuleHolds cs r → AreMet len r args
from_conditions len r args o cs (together share) holds = all_met share ((all_hold len r args).0 holds)
from_conditions len r args o cs (alone share k a within is) holds =
    one_met share (k, a, within, sym is, (condition_holds len r a).0 (All-head (λ c. Holds c r) (condition_of len a) [] holds))

-- Conditions of an entry, which hold on the record.
pub record HasConditions (len : SeccompCmpArgLen) (r : List ℕ) (args : List Argument) : Type 0 where
  pub alternative : Option ℕ
  pub conditions : List Condition
  pub are : AreConditionsIn len args alternative conditions
  pub hold : RuleHolds conditions r

-- Where a record meets an entry's, it meets some.
pub some_conditions : (len : SeccompCmpArgLen) (r : List ℕ) (args : List Argument) → AreMet len r args → HasConditions len r args
some_conditions len r args (all_met share all) = record {
  alternative = None;
  conditions = map (condition_of len) args;
  are = together share;
  hold = (all_hold len r args).1 all;
}
some_conditions len r args (one_met share (k, a, within, is, met)) = record {
  alternative = Some k;
  conditions = condition_of len a ∷ [];
  are = alone share k a within (sym is);
  hold = All-cons (λ c. Holds c r) (condition_of len a) [] ((condition_holds len r a).1 met) (All-nil (λ c. Holds c r));
}
