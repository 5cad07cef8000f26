use Rattle.seccomptool.proofs.Common.{IfErr-weaker, err_from_is_err_and, of_kind, refl, unknown}
use Rattle.seccomptool.specs.Causes.{IsUnshown}
use Rattle.seccomptool.proofs.show.show_made.Goals as goal

pub returns-in_err-subject-clause-cause : goal.returns-in_err-subject-clause-cause
returns-in_err-subject-clause-cause c =
    let error = err_from_is_err_and c.from_residual.result c.from_residual.ensures.1 in
    rw (error.1, error.2) (unknown refl)

pub returns-in_err-push_shown-clause-cause : goal.returns-in_err-push_shown-clause-cause
returns-in_err-push_shown-clause-cause c =
    let at = c.from_residual-in_err-push_shown in
    let error = err_from_is_err_and at.result at.ensures.1 in
    rw (error.1, error.2) (of_kind c.in_ok-subject.subject c.in_ok-subject.ensures c.in_err-push_shown.ensures.cause)

pub returns-clause-cause : goal.returns-clause-cause
returns-clause-cause c =
    IfErr-weaker c.plain.result _ (IsUnshown c.args.asked.now c.args.given.now) (λ e lacks. unknown lacks) c.plain.ensures.failed
