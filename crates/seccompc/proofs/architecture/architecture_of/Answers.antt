use Rattle.std.proofs.lemmas.Result.{err_from_is_err_and}
use Rattle.seccompc.proofs.Faults.{name_refused}
use Rattle.seccompc.proofs.architecture.architecture_of.Goals as goal

pub returns-in_err-from_text-clause-refused : goal.returns-in_err-from_text-clause-refused
returns-in_err-from_text-clause-refused c =
    let error = err_from_is_err_and c.from_residual.result c.from_residual.ensures.1 in
    rw (error.1, error.2) (name_refused c.args.name.now c.in_err-from_text.field-0.0 c.in_err-from_text.ensures.named
    c.in_err-from_text.ensures.refused)
