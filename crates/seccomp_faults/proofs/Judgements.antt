-- For `check` and `rejection_in`: what is answered, from what the library answers and from what is found.
use Rattle.std.proofs.Common.{◌≡◌, ℕ, List, All, Option, Some, Vec, Global, refl, sym, subst}
use Rattle.serde_json.specs.Data.{Data}
use Rattle.seccompiler.specs.declared.backend.TargetArch.{TargetArch}
use Rattle.seccompiler.specs.declared.bpf.sock_filter.{sock_filter}
use Rattle.seccompiler.specs.declared.error.Error.{Error}
use Rattle.seccompiler.specs.declared.error.Error.TheVariants as library
use Rattle.seccompiler.specs.declared.json.error.JsonFrontendError.{JsonFrontendError}
use Rattle.seccompiler.specs.declared.json.error.JsonFrontendError.TheVariants as json
use Rattle.seccompiler.specs.Errors.{IsNoMemoryInFrontend, IsNoMemoryInside, IsNoReader, from_frontend}
use Rattle.seccompiler.specs.JsonAnswers.{IsValueOf, TellsFrontendFault}
use Rattle.seccompiler.specs.JsonPrograms.{AreProgramsOf, TellsFirstFault}
use Rattle.seccompiler.specs.JsonSteps.{IsNoFailedRead}
use Rattle.seccomp_faults.specs.Checks.{AreAllCompiled, IsAtOf, IsRejection, IsRejectionOf, cause_told, from_library}
use Rattle.seccomp_faults.specs.Faults.{IsFault}
use Rattle.seccomp_faults.specs.declared.fault.Cause.{Cause}
use Rattle.seccomp_faults.specs.declared.fault.Fault.{Fault}
use Rattle.seccomp_faults.specs.declared.policy.Rejection.{Rejection}
use Rattle.seccomp_faults.specs.declared.policy.Rejection.TheVariants as rejection
use Rattle.seccomp_faults.specs.declared.table.Form.TheVariants as form

-- If the value has programs, all its filters are compiled.
pub all_compiled : (target : TargetArch) (find : List ℕ → Option (Vec sock_filter Global)) (d : Data) → AreProgramsOf target find d
    → AreAllCompiled target d
all_compiled target find d are = record {
  is_object = are.is_object;
  each = λ name value has. ((are.each name value has).found.items, (are.each name value has).own);
}

module _ (target : TargetArch) (text : List ℕ) where
  -- A refusal as it is.
  pub without_place : (e : Error) (r : Rejection) → r ≡ from_library e → IsRejectionOf target text e r
  without_place library.OutOfMemory r is = subst (IsRejectionOf target text library.OutOfMemory) (sym is) tt
  without_place e r is = subst (IsRejectionOf target text e) (sym is) (refl, λ same. cc)

  -- The faults with their places, of a text of this value that is refused for this.
  pub are_placed : (d : Data) → IsValueOf text d → (e : Error) (cause : Cause) (first : ℕ) (faults : Vec Fault Global)
      → TellsFirstFault target text e → cause_told e ≡ Some cause → All (IsFault target form.Policy d) faults.items
      → IsAtOf cause faults.items first → IsRejectionOf target text e (rejection.Placed first faults)
  are_placed d of e cause first faults told is found at = (
    record { refusal = e; is_first = told; cause = cause; kind = is; placed = (d, of, found); at = at },
    refl,
  )

  -- A rejection for a refusal is one.
  pub is_rejection : (e : Error) (r : Rejection) → IsNoMemoryInside e → IsNoReader e → TellsFirstFault target text e
      → IsRejectionOf target text e r → IsRejection target text r
  is_rejection e (rejection.Library own) memory reader first of =
      rw of.0 (record { memory = of.1; none_inside = memory; no_reader = reader; first = first })
  is_rejection e (rejection.Placed own faults) memory reader first of = of.0
  is_rejection e rejection.OutOfMemory memory reader first of = tt

  -- The front end's refusal of a text that has no value.
  pub is_unread : (e : JsonFrontendError) → IsNoMemoryInFrontend e → IsNoFailedRead e → TellsFrontendFault target text e
      → IsRejection target text (from_library (from_frontend e))
  is_unread json.OutOfMemory memory reader first = tt
  is_unread e memory reader first =
      record { memory = λ same. cc; none_inside = (λ same. cc, memory); no_reader = reader; first = first }
