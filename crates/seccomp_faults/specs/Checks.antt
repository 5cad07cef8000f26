-- What `check` answers of a policy's text: the filters, or the faults.
use Rattle.std.specs.Prelude.{◌≡◌, ◌≢◌, ℕ, ◌<◌, List, All, Option, Some, None, length, slice_get, ⊤}
use Rattle.serde_json.specs.Data.{Data}
use Rattle.seccompiler.specs.declared.backend.BackendError.TheVariants as backend
use Rattle.seccompiler.specs.declared.backend.TargetArch.{TargetArch}
use Rattle.seccompiler.specs.declared.backend.TargetArch.TheVariants.{x86_64}
use Rattle.seccompiler.specs.declared.bpf.sock_filter.{sock_filter}
use Rattle.seccompiler.specs.declared.error.Error.{Error}
use Rattle.seccompiler.specs.declared.error.Error.TheVariants as library
use Rattle.seccompiler.specs.declared.json.error.JsonFrontendError.{JsonFrontendError}
use Rattle.seccompiler.specs.declared.json.error.JsonFrontendError.TheVariants as frontend
use Rattle.seccompiler.specs.Errors.{IsNoMemoryInside, IsNoReader}
use Rattle.seccompiler.specs.JsonAnswers.{IsReadAs, OfValue}
use Rattle.seccompiler.specs.JsonFilters.{AreAll}
use Rattle.seccompiler.specs.JsonPrograms.{IsProgramOf, TellsFirstFault}
use Rattle.seccomp_profiles.specs.ProfileShape.{IsProfile}
use Rattle.seccomp_profiles.specs.ProfileText.{profile_in}
use Rattle.seccomp_profiles.specs.Types.{Profile}
use Rattle.seccomp_faults.specs.declared.fault.Cause.{Cause}
use Rattle.seccomp_faults.specs.declared.fault.Cause.TheVariants as cause
use Rattle.seccomp_faults.specs.declared.fault.Fault.{Fault}
use Rattle.seccomp_faults.specs.declared.policy.Rejection.{Rejection}
use Rattle.seccomp_faults.specs.declared.policy.Rejection.TheVariants.{Library, Placed, OutOfMemory}
use Rattle.seccomp_faults.specs.declared.table.Form.TheVariants as form
use Rattle.seccomp_faults.specs.Faults.{IsFault, cause_of}

-- The kind of fault that the library's refusal reports, if it has a place.
abbrev pub frontend_cause : JsonFrontendError → Option Cause
frontend_cause frontend.NotAnObject = Some cause.Top
frontend_cause (frontend.Shape name) = Some cause.Shape
frontend_cause (frontend.SyscallName name known) = Some cause.Call
frontend_cause (frontend.Backend backend.InvalidArgumentNumber) = Some cause.Argument
frontend_cause (frontend.Backend backend.EmptyRule) = Some cause.Empty
frontend_cause (frontend.Backend backend.IdenticalActions) = Some cause.Actions
frontend_cause e = None

abbrev pub cause_told : Error → Option Cause
cause_told (library.JsonFrontend e) = frontend_cause e
cause_told (library.Backend (backend.FilterTooLarge n)) = Some cause.Length
cause_told e = None

-- The fault at this place is of this kind.
abbrev pub IsAtOf : Cause → List Fault → ℕ → Type 0
IsAtOf cause faults first = (fault : Fault) × (slice_get faults first ≡ Some fault) × (cause_of fault.problem ≡ cause)

-- Of the text of a policy: each of the faults is one of its value, and the one at this place is of the kind that the library
-- reports first.
pub record ArePlaced (target : TargetArch) (text : List ℕ) (first : ℕ) (faults : List Fault) : Type 0 where
  pub refusal : Error
  pub is_first : TellsFirstFault target text refusal
  pub cause : Cause
  pub kind : cause_told refusal ≡ Some cause
  pub placed : OfValue text (λ d. All (IsFault target form.Policy d) faults)
  pub at : IsAtOf cause faults first

-- Of a text that is no profile: each of the faults is one of the part of its value that is read as one, and this is the place of one.
pub record AreOfProfile (text : List ℕ) (first : ℕ) (faults : List Fault) : Type 0 where
  pub value : Data
  pub is_read : IsReadAs text value
  pub is_none : (p : Profile) → IsProfile (profile_in value) p → ⊥
  pub placed : All (IsFault x86_64 form.Profile (profile_in value)) faults
  pub there : first < length faults

-- All filters of the value have programs.
abbrev pub AreAllCompiled : TargetArch → Data → Type 0
AreAllCompiled target d = AreAll (λ value. (program : List sock_filter) × IsProgramOf target value program) d

-- The library's refusal reports the first fault of the text: it is no failed read, and no lack of memory is in it.
pub record IsRefusedFor (target : TargetArch) (text : List ℕ) (e : Error) : Type 0 where
  pub memory : e ≢ library.OutOfMemory
  pub none_inside : IsNoMemoryInside e
  pub no_reader : IsNoReader e
  pub first : TellsFirstFault target text e

-- The faults with their places, or the first as the library reports it. Lack of memory may come in place of both.
abbrev pub IsRejection : TargetArch → List ℕ → Rejection → Type 0
IsRejection target text (Library e) = IsRefusedFor target text e
IsRejection target text (Placed first faults) = ArePlaced target text first faults.items
IsRejection target text OutOfMemory = ⊤

-- The same of this refusal of the library.
abbrev pub IsRejectionOf : TargetArch → List ℕ → Error → Rejection → Type 0
IsRejectionOf target text e (Library own) = (own ≡ e) × (e ≢ library.OutOfMemory)
IsRejectionOf target text e (Placed first faults) = (are : ArePlaced target text first faults.items) × (are.refusal ≡ e)
IsRejectionOf target text e OutOfMemory = ⊤

-- The library's refusal, as a rejection without a place.
abbrev pub from_library : Error → Rejection
from_library library.OutOfMemory = OutOfMemory
from_library refusal = Library refusal
