use Rattle.seccomptool.proofs.Common.{err_from_is_err_and, inr, refl}
use Rattle.seccomptool.proofs.learn.lesson_text.Goals as goal

pub returns-in_err-written_policy-clause-cause : goal.returns-in_err-written_policy-clause-cause
returns-in_err-written_policy-clause-cause c =
    let error = err_from_is_err_and c.from_residual-in_err-written_policy.result c.from_residual-in_err-written_policy.ensures.1 in
    rw (error.1, error.2) (inr (
      c.if-asked.false,
      c.if-asked-2.false,
      c.in_err-written_policy.field-0.0,
      c.in_err-written_policy.ensures.refused.0,
      c.in_err-written_policy.ensures.refused.1,
      refl,
    ))
