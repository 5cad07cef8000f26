-- All decisions, and what they decide: the value for a record.
use Rattle.std.specs.Prelude.{◌≡◌, ◌≢◌, ℕ, ◌<◌, List, [], ◌∷◌, ⊤, Vec, map, nat_eq, nat_le, if◌then◌else◌}
use Rattle.std.specs.declared.alloc.Global.{Global}
use Rattle.seccompiler.specs.declared.backend.TargetArch.{TargetArch}
use Rattle.seccompiler.specs.Architecture.{audit_word}
use Rattle.seccompiler.specs.Machine.{word_at}
use Rattle.seccomp_tree.specs.declared.decisions.DefaultValue.{DefaultValue}
use Rattle.seccomp_tree.specs.Decisions.{Ruling, First}

-- The architecture, default values by ranges of call numbers, and the rulings of each of some numbers.
pub record DecisionSet : Type 0 where
  pub target_arch : TargetArch
  pub defaults : List DefaultValue
  pub calls : List (ℕ × List Ruling)

-- The rulings that a map of vectors holds.
abbrev pub calls_of : List (ℕ × Vec Ruling Global) → List (ℕ × List Ruling)
calls_of entries = map (λ e. (e.0, e.1.items)) entries

-- The defaults start above a number, each above the one before it.
abbrev pub StartAbove : ℕ → List DefaultValue → Type 0
StartAbove start [] = ⊤
StartAbove start (x ∷ defaults) = (start < x.start) × StartAbove x.start defaults

-- There is a default from 0 on, and each starts above the one before it.
abbrev pub AscendFromZero : List DefaultValue → Type 0
AscendFromZero [] = ⊥
AscendFromZero (x ∷ defaults) = (x.start ≡ 0) × StartAbove x.start defaults

-- The value of the last default that starts at or below the number, or this one if none does.
abbrev pub default_from : ℕ → List DefaultValue → ℕ → ℕ
default_from value [] number = value
default_from value (x ∷ defaults) number = default_from (if nat_le x.start number then x.value else value) defaults number

abbrev pub default_for : List DefaultValue → ℕ → ℕ
default_for defaults number = default_from 0 defaults number

-- The rulings of a number, or none.
abbrev pub rulings_for : List (ℕ × List Ruling) → ℕ → List Ruling
rulings_for [] number = []
rulings_for (e ∷ calls) number = if nat_eq number e.0 then e.1 else rulings_for calls number

-- The word for a record: that of killing the process on another architecture, else that of the first of its number's rulings
-- that holds, else the default.
pub data IsDecided (d : DecisionSet) (r : List ℕ) (w : ℕ) : Type 0 where
  other_architecture : word_at r 4 ≢ audit_word d.target_arch → w ≡ 0x80000000 → IsDecided d r w
  decided : word_at r 4 ≡ audit_word d.target_arch
      → First (default_for d.defaults (word_at r 0)) r (rulings_for d.calls (word_at r 0)) w → IsDecided d r w
