use Rattle.seccomp_tree.proofs.Common.{drop_all, list_all, length, arith, holds, drop, refl}
use Rattle.seccomp_tree.proofs.{Decided.drop_back, Meeting.met_both, Meeting.met_now}
use Rattle.seccomp_tree.proofs.code.Code.conditions.Goals as goal

pub loop-left-init : goal.loop-left-init
loop-left-init c =
    rw (drop_all (length c.args.conditions.now) c.args.conditions.now (omega arith)) (met_now c.ranges.value.fits (λ r. refl))

pub loop-left-preserved : goal.loop-left-preserved
loop-left-preserved c =
    let rest = drop c.loop-left.left c.args.conditions.now in
    rw (drop_back c.args.conditions.now c.loop-left.left _ c.loop-left-test.true c.loop-left.auto.left c.index-conditions-left.is)
    (met_both {second = λ r. list_all (holds r) rest} (λ r rec. grind arith) (omega arith) (omega arith) c.loop-left.invariant
    c.in_ok-target.ensures)
