-- For `carry_out`: what status 0 says of a command, since each failure ends it with 1.
use Rattle.std.proofs.Common.{◌≡◌, ℕ, List, Option, Result, Ok, Err, IfOk, IfErr, arith}
use Rattle.std.specs.Prelude.{OnErr, ⊤}
use Rattle.std.specs.declared.io.Error.{Error as IoError}
use Rattle.seccompc.specs.Commands.{AnswersCommand, IsUnopened, IsPerformed}
use Rattle.seccompc.specs.Statuses.{HasNoFault}
use Rattle.seccompc.specs.declared.error.ToolError.{ToolError}
use Rattle.seccompc.specs.declared.words.Command.{Command}
use Rattle.seccompc.specs.declared.words.Command.TheVariants.{Probe, List as Listing, Run}

-- The answer that ends with 0 reports no failure, so that FILE is opened.
pub performed : {F : Type 0} (command : Command) (file : Result F IoError) (remaining : F → Option (List ℕ)) (input : Option (List ℕ))
    (r : Result ⊤ ToolError) (old new : Option (List ℕ)) (status : ℕ)
    → IfOk file (λ opened. AnswersCommand command (remaining opened) input r old new) → IfErr file (λ e. IsUnopened e r)
    → OnErr r (status ≡ 1) → status ≡ 0 → IsPerformed command input old new
performed command (Ok opened) remaining input (Ok tt) old new status answers unopened failed zero =
    record { file = remaining opened; answers = answers }
performed command (Err e) remaining input (Ok tt) old new status answers unopened failed zero = absurd unopened
performed command file remaining input (Err e) old new status answers unopened failed zero = absurd (omega arith)

-- The own words of a command that is carried out without a fault have none.
pub performed_faultless : (command : Command) (input old new : Option (List ℕ)) → IsPerformed command input old new → HasNoFault command
performed_faultless (Probe arch nr index value) input old new p = p.answers.2.told.faultless
performed_faultless (Listing arch) input old new p = let faultless = p.answers.1 in (faultless.0, faultless.1)
performed_faultless (Run arch file name) input old new p = let filter = p.answers.2.told in (filter.0, filter.1)
