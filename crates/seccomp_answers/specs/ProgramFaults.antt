-- What is wrong with a program that isn't run.
use Rattle.std.specs.Prelude.{◌≡◌, ◌≢◌, ℕ, ◌+◌, ◌<◌, ◌≤◌, ◌%◌, ◌⊎◌, List, [], ◌∷◌, length, All, Some, slice_get}
use Rattle.seccompiler.specs.declared.bpf.sock_filter.{sock_filter}
use Rattle.seccomp_compare.specs.Machine.{IsFine, IsFirstUnfit}
use Rattle.seccomp_answers.specs.declared.program.fault.Amiss.{Amiss}
use Rattle.seccomp_answers.specs.declared.program.fault.Amiss.TheVariants.{Operation, Load, Jump, End}

-- ---- what is amiss with an instruction

-- The codes of the instructions that the machine runs.
abbrev pub known_codes : List ℕ
known_codes = 0x20 ∷ 0x54 ∷ 0x05 ∷ 0x15 ∷ 0x25 ∷ 0x35 ∷ 0x45 ∷ 0x06 ∷ []

-- A jump with a test.
abbrev pub IsTest : sock_filter → Type 0
IsTest i = (i.code ≡ 0x15) ⊎ ((i.code ≡ 0x25) ⊎ ((i.code ≡ 0x35) ⊎ (i.code ≡ 0x45)))

-- The instruction at this place leads to one past the end of a program of n instructions.
pub data JumpsBehind (i : sock_filter) (place n : ℕ) : Type 0 where
  always : i.code ≡ 0x05 → n ≤ place + 1 + i.k → JumpsBehind i place n
  where_met : IsTest i → n ≤ place + 1 + i.jt → JumpsBehind i place n
  where_unmet : IsTest i → n ≤ place + 1 + i.jf → JumpsBehind i place n

-- This is amiss with the instruction at this place of a program of n instructions. If the last one doesn't return, it
-- is one that might stand at its place if others followed.
abbrev pub IsAmiss : sock_filter → ℕ → ℕ → Amiss → Type 0
IsAmiss i place n (Operation code) = (code ≡ i.code) × All (λ known. i.code ≢ known) known_codes
IsAmiss i place n Load = (i.code ≡ 0x20) × ((i.k % 4 ≢ 0) ⊎ (60 < i.k))
IsAmiss i place n Jump = JumpsBehind i place n
IsAmiss i place n End = IsFine i place n × (place + 1 ≡ n) × (i.code ≢ 0x06)

-- The instruction at this place is the first that isn't allowed there, and this is amiss with it.
pub record IsUnfitAt (program : List sock_filter) (place : ℕ) (amiss : Amiss) : Type 0 where
  pub first : IsFirstUnfit program place
  pub instruction : sock_filter
  pub there : slice_get program place ≡ Some instruction
  pub is_amiss : IsAmiss instruction place (length program) amiss
