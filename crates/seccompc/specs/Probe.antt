-- The filter that a probe's words ask for, and what is wrong with words that ask for none.
use Rattle.std.specs.Prelude.{◌≡◌, ℕ, ℤ, ◌<◌, ◌≤◌, List, [], ◌∷◌, Option, Result, ⊤}
use Rattle.seccompiler.specs.declared.backend.TargetArch.{TargetArch}
use Rattle.seccompiler.specs.declared.backend.SeccompCmpArgLen.TheVariants.{Qword}
use Rattle.seccompiler.specs.declared.backend.SeccompCmpOp.TheVariants.{Eq}
use Rattle.seccompiler.specs.declared.backend.SeccompAction.TheVariants.{Allow, KillProcess}
use Rattle.seccompiler.specs.declared.backend.BackendError.TheVariants.{InvalidArgumentNumber, InvalidSyscallNumber}
use Rattle.seccompiler.specs.declared.error.Error.{Error}
use Rattle.seccompiler.specs.declared.error.Error.TheVariants.{Backend}
use Rattle.seccompiler.specs.Policy.{Filter, IsCallNumber}
use Rattle.seccompc.specs.Answers.{AnswersOnRecords}
use Rattle.seccompc.specs.Faults.{IsNameOf, IsNoArchitecture}
use Rattle.seccompc.specs.declared.error.ToolError.{ToolError}
use Rattle.seccompc.specs.declared.error.ToolError.TheVariants.{Library, OutOfMemory}
use Rattle.seccompc.specs.Lines.{Traced}

-- The filter that allows a call of this number if all 8 bytes of the argument equal the value, and else kills the
-- process.
abbrev pub probe_filter : TargetArch → ℤ → ℕ → ℕ → Filter
probe_filter target nr index value = record {
  chains = (nr, (record { arg_index = index; arg_len = Qword; operator = Eq; value = value } ∷ []) ∷ []) ∷ [];
  mismatch_action = KillProcess;
  match_action = Allow;
  target_arch = target;
}

-- The text names an architecture, a call has an argument of this index, and the number is a call number.
pub record IsProbeFaultless (arch : List ℕ) (nr : ℤ) (index : ℕ) : Type 0 where
  pub target : TargetArch
  pub named : IsNameOf arch target
  pub argument : index ≤ 5
  pub number : IsCallNumber nr

-- The first of these that is so: the text names no architecture, no call has an argument of this index, the number is
-- no call number.
pub data IsProbeFault (arch : List ℕ) (nr : ℤ) (index : ℕ) (e : Error) : Type 0 where
  no_architecture : IsNoArchitecture arch e → IsProbeFault arch nr index e
  no_argument : (target : TargetArch) → IsNameOf arch target → 5 < index → e ≡ Backend InvalidArgumentNumber → IsProbeFault arch nr index e
  no_call_number : (target : TargetArch) → IsNameOf arch target → index ≤ 5 → (IsCallNumber nr → ⊥)
      → e ≡ Backend (InvalidSyscallNumber nr) → IsProbeFault arch nr index e

-- Why the records are not read: the first fault. Lack of memory may come in place of it.
abbrev pub IsRefusedProbe : List ℕ → ℤ → ℕ → ToolError → Type 0
IsRefusedProbe arch nr index (Library e) = IsProbeFault arch nr index e
IsRefusedProbe arch nr index OutOfMemory = ⊤
IsRefusedProbe arch nr index e = ⊥

-- The words have no fault, and the text is the lines of their filter on records.
pub record IsProbed (arch : List ℕ) (nr : ℤ) (index value : ℕ) (records : List (List ℕ)) (text : List ℕ) : Type 0 where
  pub faultless : IsProbeFaultless arch nr index
  pub traced : Traced (probe_filter faultless.target nr index value) records text

-- The answer of a probe: the words' first fault, or, if they have none, what telling their filter's lines on the
-- records answers.
abbrev pub AnswersProbe : List ℕ → ℤ → ℕ → ℕ → (records : Option (List ℕ)) → Result ⊤ ToolError → (old new : Option (List ℕ)) → Type 0
AnswersProbe arch nr index value =
    AnswersOnRecords (IsProbeFaultless arch nr index) (IsProbed arch nr index value) (IsRefusedProbe arch nr index)
