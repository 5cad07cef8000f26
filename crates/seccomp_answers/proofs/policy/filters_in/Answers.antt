use Rattle.std.proofs.lemmas.Result.{err_from_is_err_and}
use Rattle.serde_json.specs.View.{view}
use Rattle.seccomp_answers.proofs.Causes.{told_shape}
use Rattle.seccomp_answers.proofs.policy.filters_in.Goals as goal

pub returns-in_err-value-clause-unread : goal.returns-in_err-value-clause-unread
returns-in_err-value-clause-unread c =
    let error = err_from_is_err_and c.from_residual.result c.from_residual.ensures.1 in
    rw (error.1, error.2) (c.in_err-value.ensures.unread c.args.target)

pub returns-in-Ok-clause-filters : goal.returns-in-Ok-clause-filters
returns-in-Ok-clause-filters c = (view c.in_ok-value.value, c.in_ok-value.ensures.value, c.in-Ok.ensures.filters)

pub returns-clause-unread : goal.returns-clause-unread
returns-clause-unread c =
    let is = c.in_ok-value.ensures.value in
    let told = told_shape c.args.target c.args.text.now (view c.in_ok-value.value) is c.in-Err.refusal c.in-Err.ensures.refusal in
    c.unread.ensures is told.0 told.1 told.2
