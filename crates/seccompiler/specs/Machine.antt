-- Call records, the machine that runs a program on one, and the programs that a kernel takes.
use Rattle.std.specs.Prelude.{◌≡◌, ℕ, zero, suc, ◌+◌, ◌*◌, ◌<◌, List, length, slice_index, All, ◌≢◌, ◌-◌, ◌^◌, ◌≤◌, Some, slice_get}
use Rattle.std.specs.Prelude.{bit_and, ◌%◌}
use Rattle.seccompiler.specs.declared.bpf.sock_filter.{sock_filter}

-- ---- call records

-- 64 whole numbers, each from 0 to 255.
pub record IsRecord (r : List ℕ) : Type 0 where
  pub long : length r ≡ 64
  pub bytes : All (λ b. b < 256) r

-- The little-endian number of so many bytes from byte k on.
abbrev pub number_at : List ℕ → ℕ → ℕ → ℕ
number_at r k zero = 0
number_at r k (suc n) = slice_index r k + 256 * number_at r (k + 1) n

-- The 32-bit word of bytes k to k + 3. The call number is at 0, the architecture word at 4 (linux/seccomp.h).
abbrev pub word_at : List ℕ → ℕ → ℕ
word_at r k = number_at r k 4

-- The 64-bit argument i, from 0 to 5 (linux/seccomp.h).
abbrev pub argument_at : List ℕ → ℕ → ℕ
argument_at r i = number_at r (16 + 8 * i) 8

-- ---- the machine

-- What an instruction does to a place and an accumulator (classic BPF). A return does nothing more, and neither
-- does a load from outside the record or an operation that is not one of these.
pub data Does (i : sock_filter) (r : List ℕ) (place a place' a' : ℕ) : Type 0 where
  loads : i.code ≡ 0x20 → i.k + 4 ≤ length r → place' ≡ place + 1 → a' ≡ word_at r i.k → Does i r place a place' a'
  masks : i.code ≡ 0x54 → place' ≡ place + 1 → a' ≡ bit_and a i.k → Does i r place a place' a'
  jumps : i.code ≡ 0x05 → place' ≡ place + 1 + i.k → a' ≡ a → Does i r place a place' a'
  is_equal : i.code ≡ 0x15 → a ≡ i.k → place' ≡ place + 1 + i.jt → a' ≡ a → Does i r place a place' a'
  is_not_equal : i.code ≡ 0x15 → a ≢ i.k → place' ≡ place + 1 + i.jf → a' ≡ a → Does i r place a place' a'
  is_greater : i.code ≡ 0x25 → i.k < a → place' ≡ place + 1 + i.jt → a' ≡ a → Does i r place a place' a'
  is_not_greater : i.code ≡ 0x25 → a ≤ i.k → place' ≡ place + 1 + i.jf → a' ≡ a → Does i r place a place' a'
  is_at_least : i.code ≡ 0x35 → i.k ≤ a → place' ≡ place + 1 + i.jt → a' ≡ a → Does i r place a place' a'
  is_less : i.code ≡ 0x35 → a < i.k → place' ≡ place + 1 + i.jf → a' ≡ a → Does i r place a place' a'

-- One step of a program from a place and an accumulator to others. The accumulator has 32 bits, and the place
-- after the step may lie past the program.
pub record Step (p : List sock_filter) (r : List ℕ) (place a place' a' : ℕ) : Type 0 where
  pub instruction : sock_filter
  pub here : slice_get p place ≡ Some instruction
  pub before : a < 2 ^ 32
  pub after : a' < 2 ^ 32
  pub does : Does instruction r place a place' a'

-- So many steps of a program, from a place and an accumulator to others.
pub data Goes (p : List sock_filter) (r : List ℕ) : ℕ → ℕ → ℕ → ℕ → ℕ → Type 0 where
  stays : {place a : ℕ} → Goes p r place a zero place a
  then_step : {place a n place' a' place'' a'' : ℕ} → Goes p r place a n place' a' → Step p r place' a' place'' a''
      → Goes p r place a (suc n) place'' a''

-- The run from place 0 with accumulator 0 returns this word as its n-th step: the return is counted.
pub record Ends (p : List sock_filter) (r : List ℕ) (n w : ℕ) : Type 0 where
  pub place : ℕ
  pub accumulator : ℕ
  pub instruction : sock_filter
  pub some : 1 ≤ n
  pub goes : Goes p r 0 0 (n - 1) place accumulator
  pub here : slice_get p place ≡ Some instruction
  pub returns : instruction.code ≡ 0x06
  pub value : instruction.k ≡ w

-- ---- checked programs

-- An instruction that may stand at this place of a program of n instructions: it is one of the seven, loads an
-- aligned word of the record, and jumps to places of the program.
pub data IsFine (i : sock_filter) (place n : ℕ) : Type 0 where
  fine_load : i.code ≡ 0x20 → i.k % 4 ≡ 0 → i.k ≤ 60 → IsFine i place n
  fine_mask : i.code ≡ 0x54 → IsFine i place n
  fine_jump : i.code ≡ 0x05 → place + 1 + i.k < n → IsFine i place n
  fine_equal : i.code ≡ 0x15 → place + 1 + i.jt < n → place + 1 + i.jf < n → IsFine i place n
  fine_greater : i.code ≡ 0x25 → place + 1 + i.jt < n → place + 1 + i.jf < n → IsFine i place n
  fine_at_least : i.code ≡ 0x35 → place + 1 + i.jt < n → place + 1 + i.jf < n → IsFine i place n
  fine_return : i.code ≡ 0x06 → IsFine i place n

-- Each field lies within its type's range.
pub record IsInRange (i : sock_filter) : Type 0 where
  pub code : i.code < 2 ^ 16
  pub jt : i.jt < 2 ^ 8
  pub jf : i.jf < 2 ^ 8
  pub k : i.k < 2 ^ 32

-- Each field of each instruction lies within its type's range.
pub record AreInRange (piece : List sock_filter) : Type 0 where
  pub each : (place : ℕ) (i : sock_filter) → slice_get piece place ≡ Some i → IsInRange i

-- How many instructions a program may have: as many as a kernel takes (BPF_MAXINSNS of linux/bpf_common.h).
abbrev pub greatest_length : ℕ
greatest_length = 4096

-- A program that may be run: one instruction to the greatest length, each fine at its place, and the last one returns.
pub record IsChecked (p : List sock_filter) : Type 0 where
  pub some : 1 ≤ length p
  pub few : length p ≤ greatest_length
  pub ranges : AreInRange p
  pub each : (place : ℕ) (i : sock_filter) → slice_get p place ≡ Some i → IsFine i place (length p)
  pub last : (i : sock_filter) → slice_get p (length p - 1) ≡ Some i → i.code ≡ 0x06
