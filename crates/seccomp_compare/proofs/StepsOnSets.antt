-- For `follow`: what tests and steps do on each record of a set.
use Rattle.std.proofs.Common.{◌≡◌, ℕ, suc, ◌+◌, ◌*◌, ◌<◌, ◌≤◌, List, Some, true, false, refl, sym, ap, ◌∙◌, ⊎_elim, arith}
use Rattle.std.specs.Prelude.{slice_get, bit_and}
use Rattle.std.proofs.lemmas.Bool.{false≢true, cases_eq}
use Rattle.std.proofs.lemmas.Nat.{and_assoc}
use Rattle.seccompiler.specs.declared.bpf.sock_filter.{sock_filter}
use Rattle.seccompiler.specs.Machine.{word_at, masks, is_equal, is_not_equal, is_greater, is_not_greater, is_at_least, is_less}
use Rattle.seccomp_compare.specs.Machine.{Does, as_of_seven, has_bits, has_no_bits, goes_on}
use Rattle.seccomp_compare.specs.declared.follow.At.{At}
use Rattle.seccomp_compare.specs.WordSets.{Passes, passes_equal, passes_greater, passes_at_least, passes_bits}
use Rattle.seccomp_compare.specs.RecordSets.{accumulator, Reaches}

-- a test that holds leads over jt instructions
pub does_then : (i : sock_filter) (r : List ℕ) (place a : ℕ) → Passes i a true → Does i r place a (place + 1 + i.jt) a
does_then i r place a (passes_equal code h) = as_of_seven (is_equal code (h.0 refl) refl refl)
does_then i r place a (passes_greater code h) = as_of_seven (is_greater code (h.0 refl) refl refl)
does_then i r place a (passes_at_least code h) = as_of_seven (is_at_least code (h.0 refl) refl refl)
does_then i r place a (passes_bits code h) = has_bits code (h.0 refl) refl refl

-- one that does not leads over jf instructions
pub does_else : (i : sock_filter) (r : List ℕ) (place a : ℕ) → Passes i a false → Does i r place a (place + 1 + i.jf) a
does_else i r place a (passes_equal code h) = as_of_seven (is_not_equal code (λ e. false≢true (h.1 e)) refl refl)
does_else i r place a (passes_greater code h) =
    let n : i.k < a → ⊥ = λ e. false≢true (h.1 e) in
    as_of_seven (is_not_greater code (omega arith) refl refl)
does_else i r place a (passes_at_least code h) =
    let n : i.k ≤ a → ⊥ = λ e. false≢true (h.1 e) in
    as_of_seven (is_less code (omega arith) refl refl)
does_else i r place a (passes_bits code h) =
    has_no_bits code (⊎_elim (λ none. none) (λ some. absurd (false≢true (h.1 some))) (cases_eq (bit_and a i.k) 0)) refl refl

-- a mask over what the accumulator has
pub does_mask : (i : sock_filter) (r : List ℕ) (at to : At) → i.code ≡ 0x54 → to.place ≡ at.place + 1 → to.word ≡ at.word
    → to.mask ≡ bit_and at.mask i.k → Does i r at.place (accumulator r at) to.place (accumulator r to)
does_mask i r at to code place word mask =
    as_of_seven (masks code place (ap (λ w. bit_and (word_at r (4 * w)) to.mask) word ∙ ap (λ m. bit_and (word_at r (4 * at.word)) m) mask
    ∙ sym (and_assoc i.k (word_at r (4 * at.word)) at.mask)))

-- one step more
pub reaches_on : (p : List sock_filter) (r : List ℕ) (at to : At) (i : sock_filter) → slice_get p at.place ≡ Some i
    → Does i r at.place (accumulator r at) to.place (accumulator r to) → Reaches p r at → Reaches p r to
reaches_on p r at to i here does before = record {
  steps = before.steps + 1;
  ends = λ n w e.
      let same : before.steps + suc n ≡ before.steps + 1 + n = omega arith in
      rw same at (before.ends (suc n) w (goes_on i here does e));
}
