use Rattle.std.proofs.Common.{Result, Ok, Err, IfErr}
use Rattle.std.proofs.lemmas.Result.{err_from_is_err_and}
use Rattle.std.specs.Prelude.{⊤}
use Rattle.seccompc.proofs.Answers.{refused_at_once, sent_at_once}
use Rattle.seccompc.specs.Errors.{IsWriteError, KeepsOutput}
use Rattle.seccompc.specs.Faults.{IsRefusedPolicy}
use Rattle.seccompc.specs.declared.error.ToolError.{ToolError}
use Rattle.seccompc.specs.declared.error.ToolError.TheVariants.{Write}
use Rattle.seccompc.specs.Policies.{IsListing}
use Rattle.seccompc.proofs.Policies.{listed}
use Rattle.seccompc.proofs.list.list.Goals as goal

-- Of an error of writing, nothing is said of what is written.
write_keeps : {W : Type 0} (r : Result ⊤ ToolError) (old new : W) → IfErr r IsWriteError → IfErr r (λ e. KeepsOutput e old new)
write_keeps (Ok done) old new cause = tt
write_keeps (Err (Write e)) old new cause = tt
write_keeps (Err _) old new cause = absurd cause

pub returns-clause-unwritten : goal.returns-clause-unwritten
returns-clause-unwritten g c = write_keeps c.send.result c.args.out.now c.send.new.out c.send.ensures.cause

pub returns-in_err-programs-clause-answers : goal.returns-in_err-programs-clause-answers
returns-in_err-programs-clause-answers g c =
    let error = err_from_is_err_and c.from_residual.result c.from_residual.ensures.1 in
    let out = g.W.Write.contents c.args.out.now in
    let arch = c.args.arch.now in
    let known = g.R.Read.remaining c.args.policy in
    rw (error.1, error.2) (refused_at_once (IsListing arch known) (IsRefusedPolicy arch known) (λ e no. no) c.in_err-programs.field-0.0 out
    out c.in_err-programs.ensures.refused)

pub returns-clause-answers : goal.returns-clause-answers
returns-clause-answers g c =
    let contents = g.W.Write.contents in
    let programs = c.in_ok-programs.programs in
    let text = c.in_ok-text in
    let arch = c.args.arch.now in
    let known = g.R.Read.remaining c.args.policy in
    sent_at_once (IsListing arch known) (IsRefusedPolicy arch known) text.text.items c.as_slice.result.now c.send.result
    (contents c.args.out.now) (contents c.send.new.out)
    (listed arch known programs c.in_ok-programs.ensures.programs text.text.items text.ensures)
    c.as_slice.ensures.value c.send.ensures.sent c.send.ensures.cause
