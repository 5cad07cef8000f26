use Rattle.std.proofs.Common.{subst}
use Rattle.std.specs.List.{AllZip}
use Rattle.std.proofs.lemmas.Result.{IfErr-weaker, IfOk-weaker, err_from_is_err_and}
use Rattle.seccomp_profiles.specs.Abis.{machine_of}
use Rattle.seccomp_answers.specs.Chosen.{text_of}
use Rattle.seccomp_answers.specs.Explain.{IsOfPolicy, IsReturned}
use Rattle.seccomp_answers.specs.Kinds.{IsTakenAs}
use Rattle.seccomp_answers.specs.declared.kind.Subject.TheVariants.{Policy, Profile, Program}
use Rattle.seccomp_answers.proofs.explain.explanation_of.Goals as goal
use Rattle.seccomp_answers.specs.Causes.{IsUndecided, IsUnexplainedFilter, named, of_kind, refused}

pub returns-in-Policy-clause-explained : goal.returns-in-Policy-clause-explained
returns-in-Policy-clause-explained c =
    let taken = subst (IsTakenAs c.args.reading.now c.args.given.now) c.in-Policy.is c.in_ok-subject_of.ensures in
    IfOk-weaker c.explain_policy.result _ _ (λ e is. (
      Policy,
      taken,
      subst (λ target. IsOfPolicy target (text_of c.args.asked) c.args.given.now c.args.records.now e) c.machine.ensures is,
    )) c.explain_policy.ensures.explained

pub returns-in_ok-refuse_name-in-Profile-clause-explained : goal.returns-in_ok-refuse_name-in-Profile-clause-explained
returns-in_ok-refuse_name-in-Profile-clause-explained c =
    let taken = subst (IsTakenAs c.args.reading.now c.args.given.now) c.in-Profile.is c.in_ok-subject_of.ensures in
    IfOk-weaker c.explain_profile.result _ _ (λ e is. (Profile c.in-Profile.container, taken, is)) c.explain_profile.ensures.explained

pub returns-in_ok-records-in-Program-clause-explained : goal.returns-in_ok-records-in-Program-clause-explained
returns-in_ok-records-in-Program-clause-explained c =
    let abi = c.args.abi in
    let taken = subst (IsTakenAs c.args.reading.now c.args.given.now) c.in-Program.is c.in_ok-subject_of.ensures in (
      Program,
      taken,
      record {
        program = c.in_ok-program-in-Program.program.items;
        is_program = c.in_ok-program-in-Program.ensures.program;
        each = subst (λ p. AllZip (IsReturned abi p) c.args.records.now c.in_ok-records-in-Program.records.items) c.deref.ensures.value
            c.in_ok-records-in-Program.ensures;
      },
    )

pub returns-in-Policy-clause-cause : goal.returns-in-Policy-clause-cause
returns-in-Policy-clause-cause c =
    let taken = subst (IsTakenAs c.args.reading.now c.args.given.now) c.in-Policy.is c.in_ok-subject_of.ensures in
    IfErr-weaker c.explain_policy.result _ (IsUndecided (machine_of c.args.abi) c.args.reading.now (text_of c.args.asked) c.args.given.now)
    (λ e is. of_kind Policy taken
    (subst (λ target. IsUnexplainedFilter target (text_of c.args.asked) c.args.given.now e) c.machine.ensures is))
    c.explain_policy.ensures.cause

pub returns-in_err-refuse_name-in-Profile-clause-cause : goal.returns-in_err-refuse_name-in-Profile-clause-cause
returns-in_err-refuse_name-in-Profile-clause-cause c =
    let taken = subst (IsTakenAs c.args.reading.now c.args.given.now) c.in-Profile.is c.in_ok-subject_of.ensures in
    let at = c.from_residual-in_err-refuse_name-in-Profile in
    let error = err_from_is_err_and at.result at.ensures.1 in
    rw (error.1, error.2)
    (of_kind (Profile c.in-Profile.container) taken (named c.in_err-refuse_name-in-Profile.ensures.cause))

pub returns-in_ok-refuse_name-in-Profile-clause-cause : goal.returns-in_ok-refuse_name-in-Profile-clause-cause
returns-in_ok-refuse_name-in-Profile-clause-cause c =
    let taken = subst (IsTakenAs c.args.reading.now c.args.given.now) c.in-Profile.is c.in_ok-subject_of.ensures in
    IfErr-weaker c.explain_profile.result _ (IsUndecided (machine_of c.args.abi) c.args.reading.now (text_of c.args.asked) c.args.given.now)
    (λ e is. of_kind (Profile c.in-Profile.container) taken (refused is)) c.explain_profile.ensures.cause

pub returns-in_err-refuse_name-in-Program-clause-cause : goal.returns-in_err-refuse_name-in-Program-clause-cause
returns-in_err-refuse_name-in-Program-clause-cause c =
    let taken = subst (IsTakenAs c.args.reading.now c.args.given.now) c.in-Program.is c.in_ok-subject_of.ensures in
    let at = c.from_residual-in_err-refuse_name-in-Program in
    let error = err_from_is_err_and at.result at.ensures.1 in
    rw (error.1, error.2) (of_kind Program taken (named c.in_err-refuse_name-in-Program.ensures.cause))

pub returns-in_err-program-in-Program-clause-cause : goal.returns-in_err-program-in-Program-clause-cause
returns-in_err-program-in-Program-clause-cause c =
    let taken = subst (IsTakenAs c.args.reading.now c.args.given.now) c.in-Program.is c.in_ok-subject_of.ensures in
    let error = err_from_is_err_and c.from_residual-in_err-program-in-Program.result c.from_residual-in_err-program-in-Program.ensures.1 in
    rw (error.1, error.2) (of_kind Program taken (refused c.in_err-program-in-Program.ensures.refused))
