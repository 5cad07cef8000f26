use Rattle.std.proofs.lemmas.Result.{err_from_is_err_and}
use Rattle.seccompiler.proofs.json.compiler.JsonCompiler.policies_of.Goals as goal

pub returns-in_err-value-clause-fault : goal.returns-in_err-value-clause-fault
returns-in_err-value-clause-fault c = let p = err_from_is_err_and c.from_residual.result c.from_residual.ensures.1 in
    rw (p.1, p.2) (c.in_err-value.ensures.0 c.args.self.now)

pub returns-clause-read_back : goal.returns-clause-read_back
returns-clause-read_back c = rw (← c.self.view_is) c.policies_in.ensures.read_back
