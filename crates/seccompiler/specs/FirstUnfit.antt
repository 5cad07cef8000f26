-- The first place that keeps a program from being run.
use Rattle.std.specs.Prelude.{◌≡◌, ◌≢◌, ℕ, ◌+◌, ◌<◌, ◌≤◌, List, length, Some, slice_get}
use Rattle.seccompiler.specs.Machine.{IsFine, greatest_length}
use Rattle.seccompiler.specs.declared.bpf.sock_filter.{sock_filter}

-- What is amiss at a place: the program has no instruction; the one there isn't fine; it is one too many; or it is the last
-- one, and doesn't return.
pub data IsUnfitAt (p : List sock_filter) (place : ℕ) : Type 0 where
  none : length p ≡ 0 → place ≡ 0 → IsUnfitAt p place
  not_fine : (i : sock_filter) → slice_get p place ≡ Some i → (IsFine i place (length p) → ⊥) → IsUnfitAt p place
  too_many : place ≡ greatest_length → place < length p → IsUnfitAt p place
  no_return : (i : sock_filter) → slice_get p place ≡ Some i → place + 1 ≡ length p → i.code ≢ 0x06 → IsUnfitAt p place

-- Something is amiss at the place, and nothing before it: those instructions are fine, and not too many.
pub record IsFirstUnfit (p : List sock_filter) (place : ℕ) : Type 0 where
  pub few : place ≤ greatest_length
  pub before : (earlier : ℕ) (i : sock_filter) → earlier < place → slice_get p earlier ≡ Some i → IsFine i earlier (length p)
  pub unfit : IsUnfitAt p place
