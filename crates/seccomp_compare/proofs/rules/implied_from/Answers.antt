use Rattle.std.proofs.Common.{Bor, List}
use Rattle.seccompiler.specs.declared.condition.SeccompCondition.{SeccompCondition}
use Rattle.seccomp_compare.proofs.KnownBits.{contains_map}
use Rattle.seccomp_compare.proofs.rules.implied_from.Goals as goal

pub returns-then-implies : goal.returns-then-implies
returns-then-implies c = λ _ r met.
    let there = contains_map (λ (q : Bor (List SeccompCondition)). q.now) c.args.others.now c.loop-place.place c.index-others-place.result
    c.loop-place-test.true c.index-others-place.is in
    (there.0, c.index-others-place.result.now, there.1, there.2, c.implies.ensures c.if-implies.true r met)
