use Rattle.std.proofs.Common.{[], get_or, refl}
use Rattle.seccomp_answers.specs.declared.explain.Explained.{Explained}
use Rattle.seccomp_answers.specs.declared.explain.Why.TheVariants as variant
use Rattle.seccomp_answers.specs.Explain.{IsExplainedBy}
use Rattle.seccomp_answers.proofs.Pairs.{one_more}
use Rattle.seccomp_answers.proofs.explain.explain_each.Goals as goal

pub loop-call-preserved : goal.loop-call-preserved
loop-call-preserved c =
    let l = c.loop-call in
    let lowered = c.args.lowered.now in
    let records = c.args.records.now in
    let call = get_or records l.call-index [] in
    let own = c.explain-word.result in
    let by = c.explain-word.ensures in
    let e : Explained = record { word = own.word; why = variant.Entries own.reason } in
    let explained : IsExplainedBy lowered call e =
    record { reason = own.reason; is = refl; why = by.reason; only = by.only; decided = by.word } in
    rw c.in_ok-push.ensures.items
    (one_more (IsExplainedBy lowered) records l.all.items l.call-index [] e c.loop-call-test.true l.invariant explained)
