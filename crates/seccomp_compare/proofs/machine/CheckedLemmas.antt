-- For `first_unfit` and `run`: what the checker shows of a program.
use Rattle.std.proofs.Common.{◌≡◌, ℕ, ◌+◌, ◌-◌, ◌<◌, ◌≤◌, List, length, get_or, Some, subst, below_more, IsTrue, nat_eq, eq-eqb, ap, sym}
use Rattle.std.proofs.Common.{◌∙◌, arith, ⊎_elim}
use Rattle.std.proofs.lemmas.Bool.{eqb-true, cases_lt}
use Rattle.std.specs.Prelude.{slice_get}
use Rattle.std.proofs.lemmas.Option.{get_or_from_slice_get, slice_get-get_or, slice_get_within}
use Rattle.seccompiler.specs.declared.bpf.sock_filter.{sock_filter}
use Rattle.seccompiler.specs.Machine.{IsInRange}
use Rattle.seccomp_compare.specs.Machine.{IsFine, IsChecked}

-- The instructions before a place are fine, and so is the one there.
pub one_more : (p : List sock_filter) (j n : ℕ) (default : sock_filter)
    → ((place : ℕ) → place < j → (i : sock_filter) → slice_get p place ≡ Some i → IsFine i place n × IsInRange i)
    → IsFine (get_or p j default) j n × IsInRange (get_or p j default)
    → (place : ℕ) → place < j + 1 → (i : sock_filter) → slice_get p place ≡ Some i → IsFine i place n × IsInRange i
one_more p j n default before here place within i found = grind (arith, below_more, get_or_from_slice_get)

-- A program of one fine instruction to the greatest length is checked exactly if the last of them returns.
pub checked_if : (p : List sock_filter) (j : ℕ) (default : sock_filter) → 0 < length p → length p ≤ 4096 → length p ≤ j
    → ((place : ℕ) → place < j → (i : sock_filter) → slice_get p place ≡ Some i → IsFine i place (length p) × IsInRange i)
    → (IsTrue (nat_eq (get_or p (length p - 1) default).code 6) → IsChecked p)
    × (IsChecked p → IsTrue (nat_eq (get_or p (length p - 1) default).code 6))
checked_if p j default some few all_passed passed = (
  λ returns. record {
    some = omega arith;
    few = few;
    ranges = record { each = λ place i found. let within = slice_get_within p place i found in (passed place (omega arith) i found).1 };
    each = λ place i found. let within = slice_get_within p place i found in (passed place (omega arith) i found).0;
    last = λ i found. ap (λ (x : sock_filter). x.code) (sym (get_or_from_slice_get p (length p - 1) i default found))
        ∙ eqb-true _ 6 returns;
  },
  λ checked. eq-eqb _ 6 (checked.last _ (let within : length p - 1 < length p = omega arith in
      slice_get-get_or p (length p - 1) default within)),
)

-- An instruction of a checked program that does not return is not the last.
pub not_last : (p : List sock_filter) (place : ℕ) (default : sock_filter) → IsChecked p
    → place < length p → ((get_or p place default).code ≡ 6 → ⊥) → place + 1 < length p
not_last p place default checked within goes_on =
    ⊎_elim
    (λ before. before)
    (λ behind. let at : length p - 1 ≡ place = omega arith in
    absurd
    (goes_on (checked.last _ (subst (λ n. slice_get p n ≡ Some (get_or p place default))
    (sym at) (slice_get-get_or p place default within)))))
    (cases_lt (place + 1) (length p))
