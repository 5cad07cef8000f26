-- What the kernel makes of programs, as one after another is added to them.
use Rattle.std.proofs.Common.{◌≡◌, ℕ, zero, suc, ◌+◌, ◌<◌, ◌≤◌, List, [], ◌∷◌, ◌++◌, length, Some, Vec, Global, refl, sym, ap, subst}
use Rattle.std.proofs.Common.{arith, ⊎_elim, ◌⊎◌, inl, inr}
use Rattle.std.specs.Prelude.{slice_get}
use Rattle.std.proofs.lemmas.Bool.{cases_lt}
use Rattle.std.proofs.lemmas.Bool.Decides.{nat_tests}
use Rattle.std.proofs.lemmas.Option.{same_Some, slice_get_within}
use Rattle.seccompiler.specs.declared.bpf.sock_filter.{sock_filter}
use Rattle.seccompiler.specs.Code.{give}
use Rattle.seccompiler.specs.Machine as of_seven
use Rattle.seccompiler.specs.Machine.{IsRecord}
use Rattle.seccomp_compare.proofs.Ends.{ends_somehow}
use Rattle.seccomp_compare.proofs.OneEnd.{ends_only}
use Rattle.seccomp_compare.specs.Machine.{returns, IsFine, fine_of_seven, IsChecked}
use Rattle.seccomp_stack.specs.Stack.{strictness, prevailing, Returns, IsDecidedAt, IsStackDecision, of_none, of_one, IsStack}
use Rattle.seccomp_stack.specs.Joined.{AreJoined}

-- what is found in a list and one element more is of the list, or that element
get_pushed : {X : Type 0} (xs : List X) (y : X) (k : ℕ) (x : X) → slice_get (xs ++ y ∷ []) k ≡ Some x
    → (slice_get xs k ≡ Some x) ⊎ ((k ≡ length xs) × (y ≡ x))
get_pushed [] y zero x e = inr (refl, same_Some y x e)
get_pushed [] y (suc k) x e = absurd (cc)
get_pushed (z ∷ xs) y zero x e = inl e
get_pushed (z ∷ xs) y (suc k) x e =
    ⊎_elim (λ before. inl before) (λ last. let at = last.0 in inr (omega arith, last.1)) (get_pushed xs y k x e)

pub get_last : {X : Type 0} (xs : List X) (y : X) → slice_get (xs ++ y ∷ []) (length xs) ≡ Some y
get_last [] y = refl
get_last (x ∷ xs) y = get_last xs y

get_first : {X : Type 0} (xs : List X) (y : X) (k : ℕ) (x : X) → slice_get xs k ≡ Some x → slice_get (xs ++ y ∷ []) k ≡ Some x
get_first [] y k x e = absurd (cc)
get_first (z ∷ xs) y zero x e = e
get_first (z ∷ xs) y (suc k) x e = get_first xs y k x e

-- a program alone decides
pub decided_first : (r : List ℕ) (p : Vec sock_filter Global) (w : ℕ) → Returns p.items r w → IsDecidedAt r (p ∷ []) 0 w
decided_first r p w ends = record { program = p; here = refl; returns = ends; others = others } where
  others : (at : ℕ) (other : Vec sock_filter Global) → slice_get (p ∷ []) at ≡ Some other
      → (u : ℕ) × Returns other.items r u × (strictness w ≤ strictness u) × (0 < at → strictness w < strictness u)
  others zero other found =
      let same = same_Some p other found in
      (w, subst (λ (q : Vec sock_filter Global). Returns q.items r w) same ends, omega arith, λ behind. absurd (omega arith))
  others (suc at) other found = absurd (cc)

-- one that is less strict than what the others answer changes nothing
pub decided_still : (r : List ℕ) (older : List (Vec sock_filter Global)) (newer : Vec sock_filter Global) (place v w : ℕ)
    → IsDecidedAt r older place v → Returns newer.items r w → strictness v < strictness w
    → IsDecidedAt r (older ++ newer ∷ []) place v
decided_still r older newer place v w decided ends less = let laxer : strictness v ≤ strictness w = omega arith in record {
  program = decided.program;
  here = get_first older newer place decided.program decided.here;
  returns = decided.returns;
  others = λ at other found.
      ⊎_elim
      (λ before. decided.others at other before)
      (λ last. (w, subst (λ (q : Vec sock_filter Global). Returns q.items r w) last.1 ends, laxer, λ behind. less))
      (get_pushed older newer at other found);
}

-- any other one decides
pub decided_anew : (r : List ℕ) (older : List (Vec sock_filter Global)) (newer : Vec sock_filter Global) (place v w : ℕ)
    → IsDecidedAt r older place v → Returns newer.items r w → strictness w ≤ strictness v
    → IsDecidedAt r (older ++ newer ∷ []) (length older) w
decided_anew r older newer place v w decided ends most = record {
  program = newer;
  here = get_last older newer;
  returns = ends;
  others = λ at other found.
      ⊎_elim
      (λ before.
      let within = slice_get_within older at other before in
      let theirs = decided.others at other before in
      let lax = theirs.2 in
      (theirs.0, theirs.1, omega arith, λ behind. absurd (omega arith)))
      (λ last.
      let at_end = last.0 in
      (w, subst (λ (q : Vec sock_filter Global). Returns q.items r w) last.1 ends, omega arith, λ behind. absurd (omega arith)))
      (get_pushed older newer at other found);
}

-- of the answers of some and of one more the one that prevails is that of all
decision_next : (r : List ℕ) (older : List (Vec sock_filter Global)) (newer : Vec sock_filter Global) (v w : ℕ) → 1 ≤ length older
    → IsStackDecision r older v → Returns newer.items r w → IsStackDecision r (older ++ newer ∷ []) (prevailing v w)
decision_next r older newer v w some (of_none none allows) ends = let long = ap length none in absurd (omega arith)
decision_next r older newer v w some (of_one place decided) ends =
    ⊎_elim
    (λ less.
    let same : v ≡ prevailing v w = grind (arith, nat_tests) in
    of_one place (subst (IsDecidedAt r (older ++ newer ∷ []) place) same (decided_still r older newer place v w decided ends less)))
    (λ most.
    let same : w ≡ prevailing v w = grind (arith, nat_tests) in
    of_one (length older)
    (subst (IsDecidedAt r (older ++ newer ∷ []) (length older)) same (decided_anew r older newer place v w decided ends most)))
    (cases_lt (strictness v) (strictness w))

-- each program that may be run returns one word for a record
returned : (p : List sock_filter) (r : List ℕ) → IsChecked p → IsRecord r → (w : ℕ) × Returns p r w
returned p r checked rec =
    let end = ends_somehow p r checked rec in
    (end.1, record { steps = end.0; ends = end.2 })

stack_from : (programs : List (Vec sock_filter Global)) (program : List sock_filter) → IsChecked program
    → ((r : List ℕ) → IsRecord r → (word : ℕ) × Returns program r word × IsStackDecision r programs word) → IsStack programs program
stack_from programs program checked decides = record {
  checked = checked;
  decides = decides;
  only = λ r rec steps word ends.
      let known = decides r rec in
      let one = known.1 in
      subst (IsStackDecision r programs) (ends_only program r one.ends ends refl refl).1 known.2;
}

-- without programs each call is allowed
pub stack_none : IsStack [] (give 0x7fff0000 ∷ [])
stack_none = stack_from [] (give 0x7fff0000 ∷ []) checked decides where
  alone : (k : ℕ) (i : sock_filter) → slice_get (give 0x7fff0000 ∷ []) k ≡ Some i → IsFine i k 1 × of_seven.IsInRange i
  alone zero i found =
      subst (λ (x : sock_filter). IsFine x 0 1 × of_seven.IsInRange x) (same_Some (give 0x7fff0000) i found)
      (fine_of_seven (of_seven.fine_return refl), record { code = omega arith; jt = omega arith; jf = omega arith; k = omega arith })
  alone (suc k) i found = absurd (cc)

  checked : IsChecked (give 0x7fff0000 ∷ [])
  checked = record {
    some = omega arith;
    few = omega arith;
    ranges = record { each = λ k i found. (alone k i found).1 };
    each = λ k i found. (alone k i found).0;
    last = λ i found. ap (λ (x : sock_filter). x.code) (sym (same_Some (give 0x7fff0000) i found));
  }

  decides : (r : List ℕ) → IsRecord r → (word : ℕ) × Returns (give 0x7fff0000 ∷ []) r word × IsStackDecision r [] word
  decides r rec = (0x7fff0000, record { steps = 1; ends = returns (give 0x7fff0000) refl refl }, of_none refl refl)

-- a program alone stands for itself
pub stack_first : (p : Vec sock_filter Global) → IsChecked p.items → IsStack (p ∷ []) p.items
stack_first p checked = stack_from (p ∷ []) p.items checked (λ r rec.
    let end = returned p.items r checked rec in
    (end.0, end.1, of_one 0 (decided_first r p end.0 end.1)))

-- one program more
pub stack_next : (older : List (Vec sock_filter Global)) (newer : Vec sock_filter Global) (program both : List sock_filter)
    → 1 ≤ length older → IsStack older program → IsChecked newer.items → AreJoined program newer.items both
    → IsStack (older ++ newer ∷ []) both
stack_next older newer program both some stack checked joined = stack_from (older ++ newer ∷ []) both joined.checked (λ r rec.
    let first = stack.decides r rec in
    let second = returned newer.items r checked rec in
    let one = first.1 in
    let other = second.1 in (
      prevailing first.0 second.0,
      record { steps = one.steps + 1 + other.steps; ends = joined.decides r one.steps other.steps first.0 second.0 one.ends other.ends },
      decision_next r older newer first.0 second.0 some first.2 other,
    ))
