-- What the machine of the seven operations checks and runs, this one does.
use Rattle.std.proofs.Common.{◌≡◌, ◌≢◌, ℕ, suc, ◌+◌, ◌-◌, List, Some, length, subst, arith}
use Rattle.std.specs.Prelude.{slice_get}
use Rattle.seccompiler.specs.declared.bpf.sock_filter.{sock_filter}
use Rattle.seccompiler.specs.Machine as of_seven
use Rattle.seccomp_compare.specs.Machine.{Does, as_of_seven, has_bits, has_no_bits, EndsFrom, Ends, returns, goes_on}
use Rattle.seccomp_compare.specs.Machine.{IsFine, fine_of_seven, fine_jset, IsChecked}

-- none of the seven is JSET
fine_not_jset : (i : sock_filter) (place n : ℕ) → of_seven.IsFine i place n → i.code ≢ 0x45
fine_not_jset i place n (of_seven.fine_load code _ _) = λ is. omega arith
fine_not_jset i place n (of_seven.fine_mask code) = λ is. omega arith
fine_not_jset i place n (of_seven.fine_jump code _) = λ is. omega arith
fine_not_jset i place n (of_seven.fine_equal code _ _) = λ is. omega arith
fine_not_jset i place n (of_seven.fine_greater code _ _) = λ is. omega arith
fine_not_jset i place n (of_seven.fine_at_least code _ _) = λ is. omega arith
fine_not_jset i place n (of_seven.fine_return code) = λ is. omega arith

-- what one of the seven does it does in their machine
pub does_of_seven : (i : sock_filter) (r : List ℕ) (place a place' a' n : ℕ) → of_seven.IsFine i place n → Does i r place a place' a'
    → of_seven.Does i r place a place' a'
does_of_seven i r place a place' a' n fine (as_of_seven does) = does
does_of_seven i r place a place' a' n fine (has_bits code _ _ _) = absurd (fine_not_jset i place n fine code)
does_of_seven i r place a place' a' n fine (has_no_bits code _ _ _) = absurd (fine_not_jset i place n fine code)

-- an instruction other than JSET is fine as one of the seven
is_fine_of_seven : (i : sock_filter) (place n : ℕ) → i.code ≢ 0x45 → IsFine i place n → of_seven.IsFine i place n
is_fine_of_seven i place n other (fine_of_seven fine) = fine
is_fine_of_seven i place n other (fine_jset code _ _) = absurd (other code)

-- a program of the seven is checked in both machines or in none
pub checked_of_seven : (p : List sock_filter) → of_seven.IsChecked p → IsChecked p
checked_of_seven p checked = record {
  some = checked.some;
  few = checked.few;
  ranges = checked.ranges;
  each = λ place i found. fine_of_seven (checked.each place i found);
  last = checked.last;
}

pub seven_checked : (p : List sock_filter) → ((place : ℕ) (i : sock_filter) → slice_get p place ≡ Some i → i.code ≢ 0x45) → IsChecked p
    → of_seven.IsChecked p
seven_checked p others checked = record {
  some = checked.some;
  few = checked.few;
  ranges = checked.ranges;
  each = λ place i found. is_fine_of_seven i place (length p) (others place i found) (checked.each place i found);
  last = checked.last;
}

-- steps in the machine of the seven, and then the rest of the run
goes_then : (p : List sock_filter) (r : List ℕ) {x a n y b m w : ℕ} → of_seven.Goes p r x a n y b → EndsFrom p r y b m w
    → EndsFrom p r x a (n + m) w
goes_then p r {x} {a} {m = m} {w = w} of_seven.stays e =
    let same : m ≡ 0 + m = omega arith in
    subst (λ k. EndsFrom p r x a k w) same e
goes_then p r {x} {a} {m = m} {w = w} (of_seven.then_step {n = n} g s) e =
    let same : n + suc m ≡ suc n + m = omega arith in
    subst (λ k. EndsFrom p r x a k w) same (goes_then p r g (goes_on s.instruction s.here (as_of_seven s.does) e))

-- a run in the machine of the seven ends so in this one
pub ends_of_seven : (p : List sock_filter) (r : List ℕ) (n w : ℕ) → of_seven.Ends p r n w → Ends p r n w
ends_of_seven p r n w e =
    let same : n - 1 + 1 ≡ n = omega (arith, e.some) in
    let ends = goes_then p r e.goes (returns e.instruction e.here e.returns) in
    subst (λ k. Ends p r k w) same (subst (λ v. Ends p r (n - 1 + 1) v) e.value ends)
