use Rattle.std.proofs.Common.{[], get_or}
use Rattle.seccomp_answers.specs.declared.explain.Explained.{Explained}
use Rattle.seccomp_answers.specs.declared.explain.Why.TheVariants as variant
use Rattle.seccomp_answers.specs.Explain.{IsReturned}
use Rattle.seccomp_answers.proofs.Pairs.{one_more}
use Rattle.seccomp_answers.proofs.explain.returned.Goals as goal

pub loop-call-preserved : goal.loop-call-preserved
loop-call-preserved c =
    let l = c.loop-call in
    let records = c.args.records.now in
    let call = get_or records l.call-index [] in
    let by = c.run-word.result in
    let e : Explained = record { word = by.word; why = variant.Program c.number_on-number.result by.steps } in
    let own : IsReturned c.args.abi c.args.program.now call e =
    record { steps = by.steps; is = cc (c.number_on-number.ensures); ends = c.run-word.ensures.ends } in
    rw c.in_ok-push.ensures.items
    (one_more (IsReturned c.args.abi c.args.program.now) records l.all.items l.call-index [] e c.loop-call-test.true l.invariant own)
