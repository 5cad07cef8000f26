use Rattle.std.proofs.lemmas.Result.{err_from_is_err_and}
use Rattle.seccompiler.proofs.compile.TextPrograms.{told_by_frontend}
use Rattle.seccompiler.proofs.compile.programs_of.Goals as goal

pub returns-in_err-value-clause-fault : goal.returns-in_err-value-clause-fault
returns-in_err-value-clause-fault c = let p = err_from_is_err_and c.from_residual.result c.from_residual.ensures.1 in
    rw (p.1, p.2) (told_by_frontend c.args.arch c.args.text.now c.in_err-value.field-0.0 (c.in_err-value.ensures.0 c.args.arch))
