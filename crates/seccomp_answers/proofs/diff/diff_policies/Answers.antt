use Rattle.std.proofs.lemmas.Result.{err_from_is_err_and}
use Rattle.std.specs.BTreeMap.{get_by_text}
use Rattle.seccomp_answers.proofs.diff.Causes.{either_more, of_text}
use Rattle.seccomp_answers.proofs.diff.diff_policies.Goals as goal
use Rattle.seccomp_answers.specs.Causes.{AreUnfitting, IsUnfittingIn, of_new, of_old, unread}

pub returns-clause-by_name : goal.returns-clause-by_name
returns-clause-by_name g c = record {
  old = get_by_text c.in_ok-old.old;
  new = get_by_text c.in-Ok.new;
  of_old = c.in_ok-old.ensures.policies;
  of_new = c.in-Ok.ensures.policies;
  are = c.in_ok-found.ensures.found;
}

pub returns-in_err-old-clause-cause : goal.returns-in_err-old-clause-cause
returns-in_err-old-clause-cause g c =
    let error = err_from_is_err_and c.from_residual.result c.from_residual.ensures.1 in
    rw (error.1, error.2) (of_old (unread c.in_err-old.ensures.unread))

pub returns-in-Err-clause-cause : goal.returns-in-Err-clause-cause
returns-in-Err-clause-cause g c = of_new c.in-Err.error (unread c.in-Err.ensures.unread) c.in_second.ensures

pub returns-in_err-found-clause-cause : goal.returns-in_err-found-clause-cause
returns-in_err-found-clause-cause g c =
    let error = err_from_is_err_and c.from_residual-in_err-found.result c.from_residual-in_err-found.ensures.1 in
    let old = get_by_text c.in_ok-old.old in
    let new = get_by_text c.in-Ok.new in
    let target = c.args.terms.target in
    let of_old = of_text target c.args.old.now old c.in_ok-old.ensures.policies c.in_ok-old.ensures.numbers in
    let of_new = of_text target c.args.new.now new c.in-Ok.ensures.policies c.in-Ok.ensures.numbers in
    rw (error.1, error.2) (either_more (IsUnfittingIn old) (IsUnfittingIn new) (AreUnfitting target c.args.old.now)
    (AreUnfitting target c.args.new.now) of_old of_new c.in_err-found.field-0.0 c.in_err-found.ensures.cause)
