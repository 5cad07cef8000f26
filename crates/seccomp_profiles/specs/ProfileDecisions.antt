-- What a profile decides, as decisions and as a program.
use Rattle.std.specs.Prelude.{◌≡◌, ◌≢◌, ℕ, List}
use Rattle.seccomp_entries.specs.declared.entry.Action.{Action}
use Rattle.seccompiler.specs.declared.backend.TargetArch.{TargetArch}
use Rattle.seccompiler.specs.Architecture.{audit_word}
use Rattle.seccompiler.specs.Machine.{word_at}
use Rattle.seccomp_entries.specs.Entries.{value_of}
use Rattle.seccomp_tree.specs.Decided.{DecisionSet, IsDecided}
use Rattle.seccomp_profiles.specs.Abis.{machine_of}
use Rattle.seccomp_profiles.specs.Decision.{IsDecisionOf}
use Rattle.seccomp_profiles.specs.declared.types.Abi.{Abi}
use Rattle.seccomp_profiles.specs.declared.types.Abi.TheVariants.{Native}
use Rattle.seccomp_profiles.specs.Types.{Container, Entry, Profile}

-- The word is that of the profile's decision by these entries; it is that of killing the process on another architecture.
pub data IsWordOf (abi : Abi) (container : Container) (p : Profile) (entries : List Entry) (r : List ℕ) (w : ℕ) : Type 0 where
  own : (action : Action) → word_at r 4 ≡ audit_word (machine_of abi) → IsDecisionOf abi container p entries r action
      → w ≡ value_of action → IsWordOf abi container p entries r w
  other : word_at r 4 ≢ audit_word (machine_of abi) → w ≡ 0x80000000 → IsWordOf abi container p entries r w

-- That of an architecture's own calls.
abbrev pub IsProfileWord : TargetArch → Container → Profile → List ℕ → ℕ → Type 0
IsProfileWord arch container p = IsWordOf (Native arch) container p p.entries

-- What is decided is what the profile decides.
pub record DecideAs (arch : TargetArch) (container : Container) (p : Profile) (d : DecisionSet) : Type 0 where
  pub decide : (r : List ℕ) (w : ℕ) → IsDecided d r w → IsProfileWord arch container p r w
