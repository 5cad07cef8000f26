use Rattle.std.proofs.lemmas.Result.{IfErr-weaker, IfOk-weaker}
use Rattle.seccompiler.specs.JsonAnswers.{OfEachText}
use Rattle.seccompiler.specs.JsonSteps.{AreFilters}
use Rattle.seccomp_faults.specs.Checks.{AreAllCompiled, IsRejection}
use Rattle.seccomp_faults.proofs.Judgements.{is_unread}
use Rattle.seccomp_faults.proofs.Parts.{view}
use Rattle.seccomp_faults.proofs.policy.check.Goals as goal

pub returns-in-Ok-clause-compiled : goal.returns-in-Ok-clause-compiled
returns-in-Ok-clause-compiled c =
    let d = view c.in-Ok.value in
    IfOk-weaker c.check_in.result (λ filters. AreFilters d filters × AreAllCompiled c.args.target d) _
    (λ filters are. (d, c.in-Ok.ensures, are)) c.check_in.ensures.compiled

pub returns-in-Ok-clause-rejected : goal.returns-in-Ok-clause-rejected
returns-in-Ok-clause-rejected c =
    IfErr-weaker c.check_in.result (λ r. OfEachText (view c.in-Ok.value) (λ text. IsRejection c.args.target text r)) _
    (λ r is. is c.args.text.now c.in-Ok.ensures) c.check_in.ensures.rejected

pub returns-in-Err-clause-rejected : goal.returns-in-Err-clause-rejected
returns-in-Err-clause-rejected c =
    let own = c.in-Err.ensures in
    rw (c.into.ensures, c.from.ensures) (is_unread c.args.target c.args.text.now c.in-Err.refusal own.3 own.2 (own.0 c.args.target))
