-- A machine for seccomp programs of any compiler: it has the seven operations of `seccompiler`'s machine, and JSET.
use Rattle.std.specs.Prelude.{◌≡◌, ◌≢◌, ℕ, suc, ◌+◌, ◌-◌, ◌<◌, ◌≤◌, List, length, Some, slice_get, bit_and}
use Rattle.seccompiler.specs.declared.bpf.sock_filter.{sock_filter}
use Rattle.seccompiler.specs.Machine.{AreInRange}
use Rattle.seccompiler.specs.Machine as of_seven

-- What an instruction does to a place and an accumulator: what it does in the machine of the seven; or, if it is JSET, it
-- jumps by whether the accumulator has one of the bits of k (classic BPF, BPF_JSET of linux/bpf_common.h).
pub data Does (i : sock_filter) (r : List ℕ) (place a place' a' : ℕ) : Type 0 where
  as_of_seven : of_seven.Does i r place a place' a' → Does i r place a place' a'
  has_bits : i.code ≡ 0x45 → bit_and a i.k ≢ 0 → place' ≡ place + 1 + i.jt → a' ≡ a → Does i r place a place' a'
  has_no_bits : i.code ≡ 0x45 → bit_and a i.k ≡ 0 → place' ≡ place + 1 + i.jf → a' ≡ a → Does i r place a place' a'

-- From a place, with an accumulator, the program returns this word as its n-th step: the return is counted.
pub data EndsFrom (p : List sock_filter) (r : List ℕ) : ℕ → ℕ → ℕ → ℕ → Type 0 where
  returns : {place a : ℕ} (i : sock_filter) → slice_get p place ≡ Some i → i.code ≡ 0x06 → EndsFrom p r place a 1 i.k
  goes_on : {place a place' a' n w : ℕ} (i : sock_filter) → slice_get p place ≡ Some i → Does i r place a place' a'
      → EndsFrom p r place' a' n w → EndsFrom p r place a (suc n) w

-- The run from place 0 with accumulator 0 returns this word as its n-th step.
abbrev pub Ends : List sock_filter → List ℕ → ℕ → ℕ → Type 0
Ends p r n w = EndsFrom p r 0 0 n w

-- An instruction that may stand at this place of a program of n instructions: one that may in the machine of the seven, or
-- JSET that jumps to places of the program.
pub data IsFine (i : sock_filter) (place n : ℕ) : Type 0 where
  fine_of_seven : of_seven.IsFine i place n → IsFine i place n
  fine_jset : i.code ≡ 0x45 → place + 1 + i.jt < n → place + 1 + i.jf < n → IsFine i place n

-- A program that may be run: one instruction to 4096, each fine at its place, and the last one returns.
pub record IsChecked (p : List sock_filter) : Type 0 where
  pub some : 1 ≤ length p
  pub few : length p ≤ 4096
  pub ranges : AreInRange p
  pub each : (place : ℕ) (i : sock_filter) → slice_get p place ≡ Some i → IsFine i place (length p)
  pub last : (i : sock_filter) → slice_get p (length p - 1) ≡ Some i → i.code ≡ 0x06

-- What is amiss at a place: the program has no instruction; the one there isn't fine; it is one too many; or it is the last
-- one, and doesn't return.
pub data IsUnfitAt (p : List sock_filter) (place : ℕ) : Type 0 where
  none : length p ≡ 0 → place ≡ 0 → IsUnfitAt p place
  not_fine : (i : sock_filter) → slice_get p place ≡ Some i → (IsFine i place (length p) → ⊥) → IsUnfitAt p place
  too_many : place ≡ 4096 → place < length p → IsUnfitAt p place
  no_return : (i : sock_filter) → slice_get p place ≡ Some i → place + 1 ≡ length p → i.code ≢ 0x06 → IsUnfitAt p place

-- Something is amiss at the place, and nothing before it: those instructions are fine, and not too many.
pub record IsFirstUnfit (p : List sock_filter) (place : ℕ) : Type 0 where
  pub few : place ≤ 4096
  pub before : (earlier : ℕ) (i : sock_filter) → earlier < place → slice_get p earlier ≡ Some i → IsFine i earlier (length p)
  pub unfit : IsUnfitAt p place
