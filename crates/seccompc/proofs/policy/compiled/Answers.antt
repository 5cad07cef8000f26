use Rattle.std.proofs.lemmas.Result.{err_from_is_err_and}
use Rattle.seccompc.proofs.Faults.{name_is_policy, policy_refused}
use Rattle.seccompc.proofs.policy.compiled.Goals as goal

pub returns-in_err-target-clause-refused : goal.returns-in_err-target-clause-refused
returns-in_err-target-clause-refused g c =
    let error = err_from_is_err_and c.from_residual.result c.from_residual.ensures.1 in
    rw (error.1, error.2) (name_is_policy c.args.arch.now (g.P.Read.remaining c.args.policy) c.in_err-target.field-0.0
    c.in_err-target.ensures.refused)

pub returns-in_err-programs_in-clause-refused : goal.returns-in_err-programs_in-clause-refused
returns-in_err-programs_in-clause-refused g c =
    let error = err_from_is_err_and c.from_residual-in_err-programs_in.result
    c.from_residual-in_err-programs_in.ensures.1 in
    let fault = c.in_err-programs_in.ensures in
    let refused = policy_refused c.args.arch.now (g.P.Read.remaining c.args.policy) c.in_ok-target.target
    c.in_err-programs_in.field-0.0
    c.in_ok-target.ensures.named fault.memory fault.fault in
    rw (error.1, error.2) refused
