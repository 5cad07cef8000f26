-- What the steps on the way to a learned policy promise each other.
use Rattle.std.specs.Prelude.{◌↔◌, ◌⊎◌, ℕ, List, Any}
use Rattle.seccompiler.specs.declared.backend.TargetArch.{TargetArch}
use Rattle.seccompiler.specs.JsonEntries.{MeetsEntry}
use Rattle.seccompiler.specs.JsonTypes.{JsonRule}

-- The record meets one of the entries.
abbrev pub MeetsSome : TargetArch → List ℕ → List JsonRule → Type 0
MeetsSome arch r entries = Any (MeetsEntry arch r) entries

-- The same records meet these entries as meet those, on each architecture.
pub record MeetAlike (old new : List JsonRule) : Type 0 where
  pub alike : (arch : TargetArch) (r : List ℕ) → MeetsSome arch r new ↔ MeetsSome arch r old

-- The new entries are met by what meets the old ones, and by what meets this one as well.
pub record MeetAlso (entry : JsonRule) (old new : List JsonRule) : Type 0 where
  pub also : (arch : TargetArch) (r : List ℕ) → MeetsSome arch r new ↔ (MeetsSome arch r old ⊎ MeetsEntry arch r entry)
