use Rattle.seccomptool.proofs.Common.{IfErr-weaker, IsTakenAs, Policy, Program, err_from_is_err_and, named, of_kind, refl, refused, subst}
use Rattle.seccomptool.proofs.Common.{unknown}
use Rattle.seccomptool.specs.Causes.{IsUncompiled}
use Rattle.seccomp_answers.specs.declared.kind.Subject.TheVariants.{Profile}
use Rattle.seccomptool.proofs.compile.compile_made.Goals as goal

pub returns-in_err-subject_of-clause-cause : goal.returns-in_err-subject_of-clause-cause
returns-in_err-subject_of-clause-cause c =
    let error = err_from_is_err_and c.from_residual.result c.from_residual.ensures.1 in
    rw (error.1, error.2) (unknown refl)

pub returns-in-Policy-clause-cause : goal.returns-in-Policy-clause-cause
returns-in-Policy-clause-cause c =
    let taken = subst (IsTakenAs c.args.asked.now.reading c.args.given.now) c.in-Policy.is c.in_ok-subject_of.ensures in
    IfErr-weaker c.policy_made.result _ (IsUncompiled c.args.asked.now c.args.given.now) (λ e is. of_kind Policy taken is)
    c.policy_made.ensures.cause

pub returns-in_err-refuse_name-in-Profile-clause-cause : goal.returns-in_err-refuse_name-in-Profile-clause-cause
returns-in_err-refuse_name-in-Profile-clause-cause c =
    let taken = subst (IsTakenAs c.args.asked.now.reading c.args.given.now) c.in-Profile.is c.in_ok-subject_of.ensures in
    let at = c.from_residual-in_err-refuse_name-in-Profile in
    let error = err_from_is_err_and at.result at.ensures.1 in
    rw (error.1, error.2)
    (of_kind (Profile c.in-Profile.container) taken (named c.in_err-refuse_name-in-Profile.ensures.cause))

pub returns-in_ok-refuse_name-in-Profile-clause-cause : goal.returns-in_ok-refuse_name-in-Profile-clause-cause
returns-in_ok-refuse_name-in-Profile-clause-cause c =
    let taken = subst (IsTakenAs c.args.asked.now.reading c.args.given.now) c.in-Profile.is c.in_ok-subject_of.ensures in
    IfErr-weaker c.profile_made.result _ (IsUncompiled c.args.asked.now c.args.given.now)
    (λ e is. of_kind (Profile c.in-Profile.container) taken (refused is)) c.profile_made.ensures.cause

pub returns-in_err-refuse_name-in-Program-clause-cause : goal.returns-in_err-refuse_name-in-Program-clause-cause
returns-in_err-refuse_name-in-Program-clause-cause c =
    let taken = subst (IsTakenAs c.args.asked.now.reading c.args.given.now) c.in-Program.is c.in_ok-subject_of.ensures in
    let at = c.from_residual-in_err-refuse_name-in-Program in
    let error = err_from_is_err_and at.result at.ensures.1 in
    rw (error.1, error.2) (of_kind Program taken (named c.in_err-refuse_name-in-Program.ensures.cause))

pub returns-in_err-program-in-Program-clause-cause : goal.returns-in_err-program-in-Program-clause-cause
returns-in_err-program-in-Program-clause-cause c =
    let taken = subst (IsTakenAs c.args.asked.now.reading c.args.given.now) c.in-Program.is c.in_ok-subject_of.ensures in
    let at = c.from_residual-in_err-program-in-Program in
    let error = err_from_is_err_and at.result at.ensures.1 in
    rw (error.1, error.2) (of_kind Program taken (refused c.in_err-program-in-Program.ensures.refused))

pub returns-in_ok-program-in-Program-clause-cause : goal.returns-in_ok-program-in-Program-clause-cause
returns-in_ok-program-in-Program-clause-cause c =
    IfErr-weaker c.plain.result _ (IsUncompiled c.args.asked.now c.args.given.now) (λ e lacks. unknown lacks) c.plain.ensures.failed
