-- The names of a profile that no call of the architecture has.
use Rattle.std.specs.Prelude.{◌++◌, ℕ, List, [], ◌∷◌, IsNone, IsSome}
use Rattle.seccompiler.specs.declared.backend.TargetArch.{TargetArch}
use Rattle.seccompiler.specs.Architecture.{table_of}
use Rattle.seccompiler.specs.SyscallTable.{number_of}
use Rattle.seccomp_profiles.specs.Decision.{Applies}
use Rattle.seccomp_profiles.specs.Types.{Container, Entry}

-- Of the names, those that no call of the architecture has, in their order.
pub data AreUnknown (arch : TargetArch) : List (List ℕ) → List (List ℕ) → Type 0 where
  none : AreUnknown arch [] []
  known : {names unknown : List (List ℕ)} (name : List ℕ) → AreUnknown arch names unknown → IsSome (number_of (table_of arch) name)
      → AreUnknown arch (names ++ name ∷ []) unknown
  unknown : {names unknown : List (List ℕ)} (name : List ℕ) → AreUnknown arch names unknown → IsNone (number_of (table_of arch) name)
      → AreUnknown arch (names ++ name ∷ []) (unknown ++ name ∷ [])

-- Of the names of those entries that apply, those that no call of the architecture has, in the profile's order.
pub data AreLeftOut (arch : TargetArch) (container : Container) : List Entry → List (List ℕ) → Type 0 where
  none : AreLeftOut arch container [] []
  applies : {entries : List Entry} {e : Entry} {others own : List (List ℕ)} → AreLeftOut arch container entries others
      → Applies arch container e → AreUnknown arch e.names own → AreLeftOut arch container (entries ++ e ∷ []) (others ++ own)
  passed : {entries : List Entry} {e : Entry} {others : List (List ℕ)} → AreLeftOut arch container entries others
      → (Applies arch container e → ⊥) → AreLeftOut arch container (entries ++ e ∷ []) others
