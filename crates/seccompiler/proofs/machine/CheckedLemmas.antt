-- For `check` and `run`: what the checker shows of a program, instruction by instruction.
use Rattle.std.proofs.Common.{◌≡◌, ℕ, ◌+◌, ◌-◌, ◌<◌, ◌≤◌, List, length, get_or, Some, below_more, Bool, false, nat_eq, ap, sym, ◌∙◌, arith}
use Rattle.std.proofs.lemmas.Bool.{eqb-false, cases_lt}
use Rattle.std.specs.Prelude.{slice_get}
use Rattle.std.proofs.lemmas.Option.{get_or_from_slice_get, slice_get-get_or, slice_get_within}
use Rattle.seccompiler.specs.declared.bpf.sock_filter.{sock_filter}
use Rattle.seccompiler.specs.Machine.{greatest_length, IsFine, IsInRange, IsChecked}

-- A fact of every place below j and of place j is one of every place below j + 1.
pub one_more : (P : ℕ → sock_filter → Type 0) (p : List sock_filter) (j : ℕ) (default : sock_filter)
    → ((place : ℕ) → place < j → (i : sock_filter) → slice_get p place ≡ Some i → P place i)
    → P j (get_or p j default) → (place : ℕ) → place < j + 1 → (i : sock_filter) → slice_get p place ≡ Some i → P place i
one_more P p j default below here place within i found = grind (arith, below_more, get_or_from_slice_get)

-- A program that isn't empty has an instruction.
pub not_empty : (p : List sock_filter) {empty : Bool} → empty ≡ nat_eq (length p) 0 → empty ≡ false → 1 ≤ length p
not_empty p tested some = omega (arith, eqb-false (length p) 0 (sym tested ∙ some))

-- A program of one fine instruction to the greatest length is checked exactly if the last of them returns.
pub checked_if : (p : List sock_filter) (j : ℕ) (default : sock_filter) → 1 ≤ length p → j ≤ greatest_length → length p ≤ j
    → ((place : ℕ) → place < j → (i : sock_filter) → slice_get p place ≡ Some i → IsFine i place (length p) × IsInRange i)
    → ((get_or p (length p - 1) default).code ≡ 6 → IsChecked p) × (IsChecked p → (get_or p (length p - 1) default).code ≡ 6)
checked_if p j default some few all_passed passed = (
  λ returns. record {
    some = some;
    few = omega arith;
    ranges = record { each = λ place i found. let within = slice_get_within p place i found in (passed place (omega arith) i found).1 };
    each = λ place i found. let within = slice_get_within p place i found in (passed place (omega arith) i found).0;
    last = λ i found. ap (λ (x : sock_filter). x.code) (sym (get_or_from_slice_get p (length p - 1) i default found)) ∙ returns;
  },
  λ checked. checked.last _ (let within : length p - 1 < length p = omega arith in slice_get-get_or p (length p - 1) default within),
)

-- An instruction of a checked program that does not return is not the last.
pub not_last : (p : List sock_filter) (place : ℕ) (default : sock_filter) → IsChecked p
    → place < length p → ((get_or p place default).code ≡ 6 → ⊥) → place + 1 < length p
not_last p place default checked within goes_on = grind (arith, slice_get-get_or, cases_lt)
