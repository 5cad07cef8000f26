use Rattle.std.proofs.Common.{[], get_or}
use Rattle.seccomp_answers.specs.declared.explain.Explained.{Explained}
use Rattle.seccomp_answers.specs.declared.explain.Why.TheVariants as variant
use Rattle.seccomp_answers.specs.Explain.{IsOfStack}
use Rattle.seccomp_answers.proofs.Pairs.{one_more}
use Rattle.seccomp_answers.proofs.layers.decided_on.Goals as goal

pub loop-call-preserved : goal.loop-call-preserved
loop-call-preserved c =
    let l = c.loop-call in
    let programs = c.args.programs.now in
    let records = c.args.records.now in
    let call = get_or records l.call-index [] in
    let by = c.run-word.result in
    let e : Explained = record { word = by.word; why = variant.Layer c.number_for-number.result by.place by.steps } in
    let own : IsOfStack c.args.target programs call e = record {
      place = by.place;
      steps = c.run-word.ensures.steps.0;
      taken = c.run-word.ensures.steps.1;
      is = cc (c.number_for-number.ensures, c.run-word.ensures.steps.2);
      word = c.run-word.ensures.word;
      decided = c.run-word.ensures.place;
    } in
    rw c.in_ok-push.ensures.items
    (one_more (IsOfStack c.args.target programs) records l.all.items l.call-index [] e c.loop-call-test.true l.invariant own)
