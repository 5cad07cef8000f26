use Rattle.std.proofs.Common.{sym, subst, take}
use Rattle.seccomp_compare.specs.Cover.{OnRule}
use Rattle.seccomp_compare.proofs.KnownBits.{take_next}
use Rattle.seccomp_compare.proofs.covered.on_rule.Goals as goal

pub loop-condition-preserved : goal.loop-condition-preserved
loop-condition-preserved c =
    let rule = c.args.rule.now in
    let k = c.loop-condition.condition-index in
    subst (λ q. OnRule c.args.part.now c.args.own.now q c.with_next-seen.result)
    (sym (take_next rule k c.condition-item.result c.loop-condition-test.true c.condition-item.is))
    (c.with_next-seen.ensures (take k rule) c.loop-condition.invariant)
