-- What decides calls, a program that stands for it, and what is found of two that do.
use Rattle.std.specs.Prelude.{◌≡◌, ℕ, ◌^◌, List}
use Rattle.seccompiler.specs.declared.backend.TargetArch.{TargetArch}
use Rattle.seccompiler.specs.declared.bpf.sock_filter.{sock_filter}
use Rattle.seccompiler.specs.Architecture.{audit_word, table_of}
use Rattle.seccompiler.specs.Machine.{IsRecord, word_at}
use Rattle.seccompiler.specs.Policy.{Filter, IsDecision}
use Rattle.seccomp_entries.specs.Entries.{value_of}
use Rattle.seccomp_entries.specs.declared.entry.Action.{Action}
use Rattle.seccomp_compare.specs.Machine.{Ends, IsChecked}
use Rattle.seccomp_compare.specs.declared.Relation.{Relation}
use Rattle.seccomp_profiles.specs.Decision.{IsProfileDecision}
use Rattle.seccomp_profiles.specs.Types.{Container, Profile}
use Rattle.seccomp_answers.specs.declared.findings.Filters.{Filters}
use Rattle.seccomp_answers.specs.declared.findings.Finding.{Finding}
use Rattle.seccomp_answers.specs.declared.findings.Part.{Part}
use Rattle.seccomp_answers.specs.declared.findings.Verdict.TheVariants.{Same}
use Rattle.seccomp_answers.specs.Findings.{AreFoundOn, ArePartsBelow, HoldsThroughout, verdict_of}

-- What decides: a filter, a profile in a container, or a program.
pub data Ruling : Type 0 where
  of_filter : Filter → Ruling
  of_profile : Container → Profile → Ruling
  of_program : List sock_filter → Ruling

-- It decides this word for the record. Of calls of other architectures a profile says nothing.
abbrev pub Decides : TargetArch → Ruling → List ℕ → ℕ → Type 0
Decides target (of_filter f) r word = IsDecision f r word
Decides target (of_profile container p) r word = word_at r 4 ≡ audit_word target
    → (action : Action) × IsProfileDecision target container p r action × (word ≡ value_of action)
Decides target (of_program p) r word = (steps : ℕ) × Ends p r steps word

-- The program ends on the record with a word that is decided for it.
pub record EndsAsDecided (target : TargetArch) (ruling : Ruling) (p : List sock_filter) (r : List ℕ) : Type 0 where
  pub steps : ℕ
  pub word : ℕ
  pub ends : Ends p r steps word
  pub decided : Decides target ruling r word

-- The program may be run, and returns what is decided for each call.
pub record StandsFor (target : TargetArch) (ruling : Ruling) (p : List sock_filter) : Type 0 where
  pub checked : IsChecked p
  pub decides : (r : List ℕ) → IsRecord r → EndsAsDecided target ruling p r

-- Each program stands for its filter.
pub record AreOf (target : TargetArch) (new old : List sock_filter) (filters : Filters) : Type 0 where
  pub of_new : StandsFor target (of_filter filters.new.now) new
  pub of_old : StandsFor target (of_filter filters.old.now) old

-- The words are what the new and the old ruling decide for the record.
abbrev pub AreDecided : TargetArch → (new old : Ruling) → List ℕ → ℕ → ℕ → Type 0
AreDecided target new old r new_word old_word = Decides target new r new_word × Decides target old r old_word

-- These are found of what the new and the old ruling decide on the parts of all calls of the architecture. If the verdict is that nothing
-- differs, the relation holds of both for each of these calls.
pub record AreFindingsOf (target : TargetArch) (relation : Relation) (new old : Ruling) (findings : List Finding) : Type 0 where
  pub parts : List Part
  pub are_all : ArePartsBelow (table_of target) parts (2 ^ 32)
  pub are : AreFoundOn target relation (AreDecided target new old) parts findings
  pub holds : verdict_of findings ≡ Same → HoldsThroughout target relation (AreDecided target new old)
