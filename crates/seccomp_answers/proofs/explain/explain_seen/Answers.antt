use Rattle.std.proofs.Common.{[]}
use Rattle.seccomp_answers.specs.Explain.{IsExplainedOn}
use Rattle.seccomp_answers.proofs.Pairs.{one_more}
use Rattle.seccomp_answers.proofs.explain.explain_seen.Goals as goal

pub loop-call-preserved : goal.loop-call-preserved
loop-call-preserved c =
    let l = c.loop-call in
    rw c.in_ok-push.ensures.items
    (one_more (IsExplainedOn c.args.abi c.args.lowered.now) c.args.records.now l.all.items l.call-index [] c.explain_one.result
    c.loop-call-test.true l.invariant c.explain_one.ensures)
