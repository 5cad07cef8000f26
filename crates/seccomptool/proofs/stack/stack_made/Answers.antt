use Rattle.seccomptool.proofs.Common.{IsRefusal, List, Vec, err_from_is_err_and, refl, sock_filter, subst}
use Rattle.std.proofs.Common.{Global}
use Rattle.seccomptool.specs.Causes.{too_long, unstacked}
use Rattle.seccomptool.proofs.stack.stack_made.Goals as goal

pub returns-in_err-programs-clause-cause : goal.returns-in_err-programs-clause-cause
returns-in_err-programs-clause-cause c =
    let error = err_from_is_err_and c.from_residual.result c.from_residual.ensures.1 in
    rw (error.1, error.2) (unstacked c.in_err-programs.ensures.cause)

pub returns-in_err-program-clause-cause : goal.returns-in_err-program-clause-cause
returns-in_err-program-clause-cause c =
    let error = err_from_is_err_and c.from_residual-in_err-program.result c.from_residual-in_err-program.ensures.1 in
    let refusal = c.in_err-program.field-0.0 in
    rw (error.1, error.2) (too_long c.in_ok-programs.programs.items c.in_ok-programs.ensures.programs refusal
    (subst (λ (ps : List (Vec sock_filter Global)). IsRefusal ps refusal) c.deref.ensures.value c.in_err-program.ensures.refused) refl)
