use Rattle.std.proofs.Common.{◌≡◌, ℕ, List, Option, Result, Ok, Err, IfOk, IfSome}
use Rattle.std.specs.BTreeMap.{get_by_text}
use Rattle.std.proofs.lemmas.Result.{IfErr-weaker, err_from_is_err_and}
use Rattle.serde_json.specs.Data.{Data}
use Rattle.seccompiler.specs.Errors.{from_frontend}
use Rattle.seccompiler.specs.JsonAnswers.{OfValue, TellsFrontendFault}
use Rattle.seccompiler.specs.JsonFilters.{IsReadBack}
use Rattle.seccompiler.specs.JsonPrograms.{AreProgramsOf, IsProgramOf, TellsFirstFault}
use Rattle.seccompiler.specs.Reads.{Reads}
use Rattle.seccompiler.specs.declared.backend.TargetArch.{TargetArch}
use Rattle.seccompiler.specs.declared.json.error.JsonFrontendError.{JsonFrontendError}
use Rattle.seccompiler.specs.declared.json.error.JsonFrontendError.TheVariants as f
use Rattle.seccompc.specs.EngineSteps.{Programs, HasPrograms}
use Rattle.seccompc.proofs.Readings.{reads_some}
use Rattle.seccompc.proofs.policy.programs_in.Goals as goal

-- A fault of the front end is the first.
told_by_frontend : (target : TargetArch) (text : List ℕ) (e : JsonFrontendError) → TellsFrontendFault target text e
    → TellsFirstFault target text (from_frontend e)
told_by_frontend target text f.OutOfMemory h = tt
told_by_frontend target text e h = h

-- The programs of the text that is read are those of what is known.
programs_read : {E : Type 0} (target : TargetArch) (known : Option (List ℕ)) (text : List ℕ) (r : Result Programs E)
    → IfSome known (λ bytes. text ≡ bytes) → IfOk r (λ m. OfValue text (AreProgramsOf target (get_by_text m)))
    → IfOk r (λ m. (d : Data) → AreProgramsOf target (get_by_text m) d
    → IsReadBack (λ value program. IsProgramOf target value program.items) m d)
    → IfOk r (λ m. Reads known (λ t. OfValue t (HasPrograms target m)))
programs_read target known text (Ok m) is are back =
    (text, is, (are.0, are.1, record { under_names = are.2; read_back = back are.0 are.2 }))
programs_read target known text (Err e) is are back = tt

pub returns-in_err-text-clause-fault : goal.returns-in_err-text-clause-fault
returns-in_err-text-clause-fault g c =
    let p = err_from_is_err_and c.from_residual.result c.from_residual.ensures.1 in
    rw (p.1, p.2) (reads_some (g.P.Read.remaining c.args.policy) _
    (λ text. told_by_frontend c.args.target text c.in_err-text.field-0.0 (c.in_err-text.ensures.fault c.args.target text)))

pub returns-clause-programs : goal.returns-clause-programs
returns-clause-programs g c =
    programs_read c.args.target (g.P.Read.remaining c.args.policy) c.in_ok-text.text.items c.programs_of.result
    c.in_ok-text.ensures.text (rw c.as_slice.ensures.value at c.programs_of.ensures.programs) c.programs_of.ensures.read_back

pub returns-clause-fault : goal.returns-clause-fault
returns-clause-fault g c =
    let text = c.in_ok-text.text.items in
    IfErr-weaker c.programs_of.result (TellsFirstFault c.args.target text)
    (λ e. Reads (g.P.Read.remaining c.args.policy) (λ t. TellsFirstFault c.args.target t e))
    (λ e told. (text, c.in_ok-text.ensures.text, told)) (rw c.as_slice.ensures.value at c.programs_of.ensures.fault)
