-- Sets of 32-bit words, and the tests of instructions.
use Rattle.std.specs.Prelude.{◌≡◌, ◌≢◌, ℕ, ◌<◌, ◌≤◌, ◌↔◌, ◌⊎◌, ◌^◌, Bool, IsTrue, bit_and, bit_or}
use Rattle.seccompiler.specs.declared.bpf.sock_filter.{sock_filter}
use Rattle.seccomp_compare.specs.declared.values.Values.{Values}

-- The word is one of these: its known bits are as they say, and under the mask it lies within the bounds.
pub record HasValue (s : Values) (x : ℕ) : Type 0 where
  pub bits : bit_and x s.known ≡ s.value
  pub least : s.least ≤ bit_and x s.mask
  pub most : bit_and x s.mask ≤ s.most

-- The bits that are not known stand as 0.
abbrev pub KeepsKnown : Values → Type 0
KeepsKnown s = bit_and s.value s.known ≡ s.value

-- The words of both are the same.
pub record AreSame (s t : Values) : Type 0 where
  pub to : (x : ℕ) → x < 2 ^ 32 → HasValue s x → HasValue t x
  pub back : (x : ℕ) → x < 2 ^ 32 → HasValue t x → HasValue s x

-- The words of the first are those of the other two.
pub record AreHalves (s low high : Values) : Type 0 where
  pub cover : (x : ℕ) → x < 2 ^ 32 → HasValue s x → HasValue low x ⊎ HasValue high x
  pub from_low : (x : ℕ) → x < 2 ^ 32 → HasValue low x → HasValue s x
  pub from_high : (x : ℕ) → x < 2 ^ 32 → HasValue high x → HasValue s x

-- The least bound with the known bits is one of the words, if the bounds leave any.
abbrev pub IsTight : Values → Type 0
IsTight s = s.least ≤ s.most → HasValue s (bit_or s.least s.value)

-- The instruction is one of the four tests.
pub data IsTest (i : sock_filter) : Type 0 where
  tests_equal : i.code ≡ 0x15 → IsTest i
  tests_greater : i.code ≡ 0x25 → IsTest i
  tests_at_least : i.code ≡ 0x35 → IsTest i
  tests_bits : i.code ≡ 0x45 → IsTest i

-- What the test of an instruction says of the accumulator.
pub data Passes (i : sock_filter) (a : ℕ) (holds : Bool) : Type 0 where
  passes_equal : i.code ≡ 0x15 → (IsTrue holds ↔ a ≡ i.k) → Passes i a holds
  passes_greater : i.code ≡ 0x25 → (IsTrue holds ↔ i.k < a) → Passes i a holds
  passes_at_least : i.code ≡ 0x35 → (IsTrue holds ↔ i.k ≤ a) → Passes i a holds
  passes_bits : i.code ≡ 0x45 → (IsTrue holds ↔ bit_and a i.k ≢ 0) → Passes i a holds
