-- For `returns`: a program of one return.
use Rattle.std.proofs.Common.{◌≡◌, ℕ, zero, suc, ◌<◌, ◌^◌, List, [], ◌∷◌, Some, refl, arith}
use Rattle.std.specs.Prelude.{slice_get}
use Rattle.seccompiler.specs.declared.bpf.sock_filter.{sock_filter}
use Rattle.seccompiler.specs.Machine.{fine_return}
use Rattle.seccomp_compare.specs.Machine.{IsChecked, Ends, fine_of_seven, returns}
use Rattle.seccomp_compare.proofs.OneEnd.{ends_only}

abbrev pub the_return : ℕ → sock_filter
the_return word = record { code = 6; jt = 0; jf = 0; k = word }

only_one : (x i : sock_filter) (place : ℕ) → slice_get (x ∷ []) place ≡ Some i → i ≡ x
only_one x i zero is = cc
only_one x i (suc place) is = cc

-- It may be run.
pub return_checked : (word : ℕ) → word < 2 ^ 32 → IsChecked (the_return word ∷ [])
return_checked word fits = record {
  some = omega arith;
  few = omega arith;
  ranges = record {
    each = λ place i found. rw (only_one (the_return word) i place found)
        (record { code = omega arith; jt = omega arith; jf = omega arith; k = fits });
  };
  each = λ place i found. rw (only_one (the_return word) i place found) (fine_of_seven (fine_return refl));
  last = λ i found. rw (only_one (the_return word) i 0 found) refl;
}

-- It returns this word alone.
pub return_ends : (r : List ℕ) (word steps other : ℕ) → Ends (the_return word ∷ []) r steps other → other ≡ word
return_ends r word steps other ends = (ends_only (the_return word ∷ []) r ends (returns (the_return word) refl refl) refl refl).1
