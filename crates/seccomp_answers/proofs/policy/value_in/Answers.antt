use Rattle.std.proofs.lemmas.Result.{err_from_is_err_and}
use Rattle.seccomp_answers.proofs.Causes.{unread_for}
use Rattle.seccomp_answers.proofs.policy.value_in.Goals as goal

pub returns-in_err-value-clause-unread : goal.returns-in_err-value-clause-unread
returns-in_err-value-clause-unread c =
    let error = err_from_is_err_and c.from_residual.result c.from_residual.ensures.1 in
    let is = c.in_err-value.ensures in
    rw (error.1, error.2) (λ target. unread_for target c.args.text.now c.in_err-value.field-0.0 (is.0 target) is.2 is.3)
