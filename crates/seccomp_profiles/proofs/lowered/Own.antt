-- For `push_rank`: the entries that one of a profile becomes are exactly its own, in order.
use Rattle.std.proofs.Common.{◌≡◌, ◌≢◌, ◌<◌, ◌+◌, ℕ, zero, suc, List, [], ◌∷◌, Bool, true, false, length, get_or, map, nat_lt}
use Rattle.std.proofs.Common.{Option, Some, None, refl, sym, subst, ap, ◌∙◌, arith}
use Rattle.std.specs.Prelude.{All, Contains}
use Rattle.std.specs.List.{AllPairs, flat_map}
use Rattle.std.proofs.lemmas.Bool.{false≢true}
use Rattle.std.proofs.lemmas.Bool.Decides.{nat_tests}
use Rattle.std.proofs.lemmas.List.{get_or-map, get_or_default, length-map}
use Rattle.std.proofs.lemmas.List.Elements.{All-contains}
use Rattle.std.proofs.lemmas.List.Kept.{AllPairs-cons}
use Rattle.seccomp_entries.specs.declared.entry.Action.{Action}
use Rattle.seccomp_profiles.specs.declared.types.Abi.{Abi}
use Rattle.seccompiler.specs.declared.backend.SeccompCmpArgLen.{SeccompCmpArgLen}
use Rattle.seccompiler.specs.Policy.{Condition}
use Rattle.seccomp_profiles.specs.Abis.{end_for, length_for}
use Rattle.seccomp_entries.specs.Entries as entries
use Rattle.seccomp_profiles.specs.Concerns.{AreListsOf, Concern, IsConcernOf, apart, entries_for, entries_from, entries_of_lists, entry_for}
use Rattle.seccomp_profiles.specs.Concerns as said
use Rattle.seccomp_profiles.specs.Conditions.{AreConditionsIn, alone, condition_of, together}
use Rattle.seccomp_profiles.specs.Decision.{ConcernsOn, ShareArgument, rank, rank_by, tested}
use Rattle.seccomp_profiles.specs.Lowered.{IsAskedBefore, IsOwn, by_condition, by_number, rank_in}
use Rattle.seccomp_profiles.specs.declared.types.Argument.{Argument}
use Rattle.seccomp_profiles.specs.Types.{Container, Entry}
use Rattle.seccomp_profiles.proofs.Least.{same_at}
use Rattle.seccomp_profiles.proofs.lowered.Pairs.{each_had, from_mapped, had_none, pairs_append, pairs_head, pairs_none, pairs_one}
use Rattle.seccomp_profiles.proofs.lowered.Pairs.{pairs_tail, to_mapped}

-- ---- of one number

module _ (len : SeccompCmpArgLen) (place : ℕ) (action : Action) (number : ℕ) where
  -- It is the entry of one of these lists.
  record IsFrom (is_alone : Bool) (index : ℕ) (lists : List (List Condition)) (e : entries.Entry) : Type 0 where
    pub nth : ℕ
    pub conditions : List Condition
    pub within : nth < length lists
    pub there : conditions ≡ get_or lists nth conditions
    pub is : e ≡ entry_for place action number is_alone (index + nth) conditions

  from_lists : (is_alone : Bool) (index : ℕ) (lists : List (List Condition)) (e : entries.Entry)
      → Contains (entries_from place action number is_alone index lists) e → IsFrom is_alone index lists e
  from_lists is_alone index [] e has = absurd (had_none e has)
  from_lists is_alone index (cs ∷ lists) e (zero, within, is) =
      let same : index ≡ index + 0 = omega arith in
      record {
        nth = 0;
        conditions = cs;
        within = omega arith;
        there = refl;
        is = sym is ∙ ap (λ k. entry_for place action number is_alone k cs) same;
      }
  from_lists is_alone index (cs ∷ lists) e (suc k, within, is) =
      let rest = from_lists is_alone (index + 1) lists e (k, omega arith, is) in
      let same : index + 1 + rest.nth ≡ index + suc rest.nth = omega arith in
      record {
        nth = suc rest.nth;
        conditions = rest.conditions;
        within = omega (arith, rest.within);
        there = rest.there;
        is = rest.is ∙ ap (λ k. entry_for place action number is_alone k rest.conditions) same;
      }

  to_lists : (is_alone : Bool) (index : ℕ) (lists : List (List Condition)) (k : ℕ) (cs : List Condition) → k < length lists
      → cs ≡ get_or lists k cs
      → Contains (entries_from place action number is_alone index lists) (entry_for place action number is_alone (index + k) cs)
  to_lists is_alone index [] k cs within is = absurd (omega arith)
  to_lists is_alone index (ds ∷ lists) zero cs within is =
      let same : index ≡ index + 0 = omega arith in (
        0,
        omega arith,
        ap (λ cs. entry_for place action number is_alone index cs) (sym is)
            ∙ ap (λ k. entry_for place action number is_alone k cs) same,
      )
  to_lists is_alone index (ds ∷ lists) (suc k) cs within is =
      let rest = to_lists is_alone (index + 1) lists k cs (omega arith) is in
      let same : index + 1 + k ≡ index + suc k = omega arith in
      let all = entries_from place action number is_alone index (ds ∷ lists) in
      subst (λ n. Contains all (entry_for place action number is_alone n cs)) same
      (suc rest.0, omega (arith, rest.1), rest.2)

  -- Each of the entries that have an index is asked before those behind it.
  in_order : (index : ℕ) (lists : List (List Condition)) → AllPairs IsAskedBefore (entries_from place action number true index lists)
  in_order index [] = pairs_none IsAskedBefore
  in_order index (cs ∷ lists) =
      let own = entry_for place action number true index cs in
      let rest = entries_from place action number true (index + 1) lists in
      AllPairs-cons IsAskedBefore own rest
      (each_had (IsAskedBefore own) rest
      (λ e has.
      let is = from_lists true (index + 1) lists e has in
      subst (IsAskedBefore own) (sym is.is) (by_condition refl index (index + 1 + is.nth) refl refl (omega arith))))
      (in_order (index + 1) lists)

  -- The entries of an entry's lists.
  record AreOf (args : List Argument) (all : List entries.Entry) : Type 0 where
    pub has : (o : Option ℕ) (cs : List Condition) → AreConditionsIn len args o cs
        → Contains all (record { place = place; alternative = o; number = number; conditions = cs; action = action })
    pub only : (e : entries.Entry) → Contains all e
        → AreConditionsIn len args e.alternative e.conditions × (e.place ≡ place) × (e.number ≡ number) × (e.action ≡ action)
    pub ordered : AllPairs IsAskedBefore all

  shared_many : (args : List Argument) → ShareArgument args → 1 < length args
  shared_many [] share = absurd (false≢true share)
  shared_many (a ∷ []) share = absurd (false≢true share)
  shared_many (a ∷ b ∷ args) share = omega arith

  abbrev each_own : Argument → List Condition
  each_own a = condition_of len a ∷ []

  has_all : (args : List Argument) → (ShareArgument args → ⊥) → (o : Option ℕ) (cs : List Condition) → AreConditionsIn len args o cs
      → Contains (entry_for place action number false 0 (map (condition_of len) args) ∷ [])
      (record { place = place; alternative = o; number = number; conditions = cs; action = action })
  has_all args share o cs (together not) = (0, omega arith, refl)
  has_all args share o cs (alone shared k a within there) = absurd (share shared)

  has_each : (args : List Argument) → ShareArgument args → (o : Option ℕ) (cs : List Condition) → AreConditionsIn len args o cs
      → Contains (entries_from place action number true 0 (map each_own args))
      (record { place = place; alternative = o; number = number; conditions = cs; action = action })
  has_each args share o cs (together not) = absurd (not share)
  has_each args share o cs (alone shared k a within there) =
      let long = length-map args each_own in
      let same : 0 + k ≡ k = omega arith in
      let all = entries_from place action number true 0 (map each_own args) in
      subst (λ n. Contains all (entry_for place action number true n (each_own a)))
      same (to_lists true 0 (map each_own args) k (each_own a) (omega (arith, long, within))
      (ap each_own there ∙ sym (get_or-map each_own args k a (each_own a) within)))

  -- It has these conditions of the entry, its place, the number and the action.
  abbrev Is : List Argument → entries.Entry → Type 0
  Is args e = AreConditionsIn len args e.alternative e.conditions × (e.place ≡ place) × (e.number ≡ number) × (e.action ≡ action)

  only_all : (args : List Argument) → (ShareArgument args → ⊥) → (e : entries.Entry) → IsFrom false 0 (map (condition_of len) args ∷ []) e
      → Is args e
  only_all args share e own = subst (Is args) (sym own.is) (
    subst (AreConditionsIn len args None) (sym (first own.nth own.conditions own.within own.there)) (together share),
    refl,
    refl,
    refl,
  )
    where
      first : (k : ℕ) (cs : List Condition) → k < 1 → cs ≡ get_or (map (condition_of len) args ∷ []) k cs → cs ≡ map (condition_of len) args
      first zero cs within is = is
      first (suc k) cs within is = absurd (omega arith)

  only_each : (args : List Argument) → ShareArgument args → (e : entries.Entry) → IsFrom true 0 (map each_own args) e → Is args e
  only_each args share e own = go args share own.nth (omega (arith, length-map args each_own, own.within)) own.conditions own.there own.is
    where
      go : (args : List Argument) → ShareArgument args → (k : ℕ) → k < length args → (cs : List Condition)
          → cs ≡ get_or (map each_own args) k cs → e ≡ entry_for place action number true (0 + k) cs → Is args e
      go [] share k within cs there is = absurd (false≢true share)
      go (b ∷ bs) share k within cs there is =
          let args = b ∷ bs in
          let a = get_or args k b in
          let same : 0 + k ≡ k = omega arith in
          let conditions : cs ≡ each_own a = there ∙ get_or-map each_own args k b cs within in
          subst (Is args) (sym (is ∙ ap (λ n. entry_for place action number true n cs) same)) (
            subst (AreConditionsIn len args (Some k)) (sym conditions)
                (alone share k a within (get_or_default args k b a within)),
            refl,
            refl,
            refl,
          )

  are_of : (args : List Argument) (lists : List (List Condition)) → AreListsOf len args lists
      → AreOf args (entries_of_lists place action lists number)
  are_of args lists (said.together share is) = subst (λ all. AreOf args (entries_of_lists place action all number)) (sym is) (record {
    has = has_all args share;
    only = λ e has. only_all args share e (from_lists false 0 (map (condition_of len) args ∷ []) e has);
    ordered = pairs_one IsAskedBefore (entry_for place action number false 0 (map (condition_of len) args));
  })
  are_of args lists (apart share is) = subst (λ all. AreOf args (entries_of_lists place action all number)) (sym is)
      (subst (λ b. AreOf args (entries_from place action number b 0 (map each_own args))) (sym several) (record {
        has = has_each args share;
        only = λ e has. only_each args share e (from_lists true 0 (map each_own args) e has);
        ordered = in_order 0 (map each_own args);
      }))
    where
      several : nat_lt 1 (length (map each_own args)) ≡ true
      several =
          let long = length-map args each_own in
          let many = shared_many args share in
          let more : 1 < length (map each_own args) = omega (arith, long, many) in
          grind (arith, nat_tests, more)

-- ---- of all numbers

-- What has the conditions of an entry and its action has its rank.
pub ranked : (len : SeccompCmpArgLen) (args : List Argument) (action : Action) (o : Option ℕ) (cs : List Condition)
    → AreConditionsIn len args o cs → rank_in cs action ≡ rank_by args action
ranked len [] action o cs (together not) = refl
ranked len (a ∷ args) action o cs (together not) = refl
ranked len [] action o cs (alone share k a within there) = absurd (false≢true share)
ranked len (b ∷ args) action o cs (alone share k a within there) = refl

module _ (abi : Abi) (container : Container) (default : Action) (own : List Entry) where
  pub own_rank : (e : entries.Entry) → (is : IsOwn abi container default own e) → rank_in e.conditions e.action ≡ rank is.entry
  own_rank e is =
      ranked (length_for abi) (tested is.entry.args) e.action e.alternative e.conditions is.conditions
      ∙ ap (rank_by (tested is.entry.args)) is.action

  module _ (i : ℕ) (x : Entry) (c : Concern) (within : i < length own) (read : x ≡ get_or own i x)
      (says : IsConcernOf abi container default x c) where
    abbrev each_number : ℕ → List entries.Entry
    each_number n = entries_of_lists i c.action c.alternatives n

    of_number : (n : ℕ) → AreOf (length_for abi) i c.action n (tested x.args) (each_number n)
    of_number n = are_of (length_for abi) i c.action n (tested x.args) c.alternatives says.alternatives

    pub said_only : (e : entries.Entry) → Contains (entries_for i c) e → IsOwn abi container default own e × (e.place ≡ i)
    said_only e has =
        let from = from_mapped each_number c.numbers e has in
        let is = (of_number from.0).only e from.2 in (
          record {
            entry = x;
            within = subst (λ k. k < length own) (sym is.1) within;
            there = subst (λ k. x ≡ get_or own k x) (sym is.1) read;
            concerns = subst (λ n. ConcernsOn abi container default n x) (sym is.2) ((says.numbers.exactly from.0).0 from.1);
            conditions = is.0;
            action = is.3 ∙ says.action;
          },
          is.1,
        )

    pub said_has : (e : entries.Entry) → IsOwn abi container default own e → e.place ≡ i → Contains (entries_for i c) e
    said_has e is at =
        let same : is.entry ≡ x = same_at own i is.entry x within (subst (λ k. is.entry ≡ get_or own k is.entry) at is.there) read in
        let concerns = subst (ConcernsOn abi container default e.number) same is.concerns in
        let conditions =
        subst (λ (y : Entry). AreConditionsIn (length_for abi) (tested y.args) e.alternative e.conditions) same is.conditions in
        let action : e.action ≡ c.action = is.action ∙ ap (λ (y : Entry). y.action) same ∙ sym says.action in
        to_mapped each_number c.numbers e.number e ((says.numbers.exactly e.number).1 concerns)
        (subst (Contains (each_number e.number))
        (ap (λ k. record { place = k; alternative = e.alternative; number = e.number; conditions = e.conditions; action = c.action })
        (sym at)
        ∙ ap (λ a. record { place = e.place; alternative = e.alternative; number = e.number; conditions = e.conditions; action = a })
        (sym action))
        ((of_number e.number).has e.alternative e.conditions conditions))

    pub said_ordered : AllPairs IsAskedBefore (entries_for i c)
    said_ordered = go c.numbers says.numbers.once
      where
        go : (ns : List ℕ) → AllPairs (λ m n. m ≢ n) ns → AllPairs IsAskedBefore (flat_map each_number ns)
        go [] once = pairs_none IsAskedBefore
        go (n ∷ ns) once = pairs_append IsAskedBefore (each_number n) (flat_map each_number ns) (of_number n).ordered
            (go ns (pairs_tail (λ m n. m ≢ n) n ns once))
            (λ e f has has_too.
            let from = from_mapped each_number ns f has_too in
            let one = (of_number n).only e has in
            let other = (of_number from.0).only f from.2 in
            let apart = All-contains (λ m. n ≢ m) ns from.0 (pairs_head (λ m n. m ≢ n) n ns once) from.1 in
            by_number (one.1 ∙ sym other.1) (λ same. apart (sym one.2 ∙ same ∙ other.2)))

    pub said_below : All (λ e. e.number < end_for abi) (entries_for i c)
    said_below = each_had (λ e. e.number < end_for abi) (entries_for i c) (λ e has.
        let from = from_mapped each_number c.numbers e has in
        let is = (of_number from.0).only e from.2 in
        subst (λ n. n < end_for abi) (sym is.2) (All-contains (λ n. n < end_for abi) c.numbers from.0 says.numbers.below from.1))
