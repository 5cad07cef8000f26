-- Tables of system calls: each architecture's pairs of a name and a number, and what every table is.
use Rattle.std.specs.Prelude.{◌≡◌, ◌≢◌, ℕ, ℤ, pos, ◌≤ℤ◌, List, [], ◌∷◌, All, AllPairs, IsAscii, length, take, drop, slice_index_or}
use Rattle.std.specs.Prelude.{◌+◌, ◌-◌, ◌<◌, ◌≤◌, eqb}
use Rattle.std.specs.Cmp.Lexicographic.{slice_cmp}
use Rattle.std.specs.List.{slice_split}
use Rattle.std.specs.Ordering.{nat_cmp}
use Rattle.std.specs.declared.cmp.Ordering.TheVariants.{Less}
use Rattle.seccomp_tables.specs.declared.x86_64.TheConstants.{X86_64_NAMES, X86_64_NUMBERS}
use Rattle.seccomp_tables.specs.declared.aarch64.TheConstants.{AARCH64_NAMES, AARCH64_NUMBERS}
use Rattle.seccomp_tables.specs.declared.riscv64.TheConstants.{RISCV64_NAMES, RISCV64_NUMBERS}

-- A system call's name, as bytes, and its number.
abbrev pub Pair : Type 0
Pair = List ℕ × ℤ

-- The words of a text, each up to the next space.
abbrev pub words : List ℕ → List (List ℕ)
words text = slice_split (λ byte. eqb byte 32) text

-- In a text this word stands from one start to the space before the next.
pub record IsWord (text : List ℕ) (start next : ℕ) (word : List ℕ) : Type 0 where
  pub apart : start < next
  pub inside : next ≤ length text + 1
  pub here : take (next - 1 - start) (drop start text) ≡ word

-- The starts of the words of an ASCII text, and where one more would begin.
pub record AreStarts (text starts : List ℕ) : Type 0 where
  pub ascii : IsAscii text
  pub long : length starts ≡ length (words text) + 1
  pub each : (place : ℕ) (word : List ℕ) → place < length (words text)
      → IsWord text (slice_index_or starts place 0) (slice_index_or starts (place + 1) 0) (slice_index_or (words text) place word)

-- Each name with the number at its place.
abbrev pub numbered : List (List ℕ) → List ℤ → List Pair
numbered [] numbers = []
numbered (name ∷ names) [] = []
numbered (name ∷ names) (number ∷ numbers) = (name, number) ∷ numbered names numbers

-- The table of x86_64: the pairs that the Rust crate seccompiler has for it, in byte order of names.
unfoldable pub x86_64_pairs : List Pair
x86_64_pairs = numbered (words X86_64_NAMES.now) X86_64_NUMBERS

-- The table of aarch64, likewise.
unfoldable pub aarch64_pairs : List Pair
aarch64_pairs = numbered (words AARCH64_NAMES.now) AARCH64_NUMBERS

-- The table of riscv64, likewise.
unfoldable pub riscv64_pairs : List Pair
riscv64_pairs = numbered (words RISCV64_NAMES.now) RISCV64_NUMBERS

-- The first pair's name comes before the second's in byte order.
abbrev pub StandsBefore : Pair → Pair → Type 0
StandsBefore first second = slice_cmp nat_cmp first.0 second.0 ≡ Less

-- The greatest number of a system call in the tables, which are those of the Linux kernel 6.12.
abbrev pub greatest_number : ℤ
greatest_number = pos 462

-- A number that the tables may give a system call.
abbrev pub IsTableNumber : ℤ → Type 0
IsTableNumber number = (pos 0 ≤ℤ number) × (number ≤ℤ greatest_number)

-- Every table has 255 to 511 names, all ASCII, in byte order, no name twice, and no number out of range.
pub record IsCallTable (table : List Pair) : Type 0 where
  pub long : 255 ≤ length table
  pub short : length table < 512
  pub ascii : All (λ pair. All (λ byte. byte < 128) pair.0) table
  pub ascending : AllPairs StandsBefore table
  pub distinct : AllPairs (λ first second. first.0 ≢ second.0) table
  pub in_range : All (λ pair. IsTableNumber pair.1) table
