use Rattle.seccomp_learn.specs.Usual.{runnable_call}
use Rattle.seccomp_learn.proofs.OfNames.{all_made, made_more, made_same, none_made}
use Rattle.seccomp_learn.proofs.usual.calls_in.Goals as goal

pub loop-name-init : goal.loop-name-init
loop-name-init c = rw c.new-calls.ensures.items (none_made c.args.arch runnable_call)

pub loop-name-preserved-in_default : goal.loop-name-preserved-in_default
loop-name-preserved-in_default c =
    made_same c.args.arch runnable_call c.args.table.now c.loop-name.calls.items c.loop-name.name-index _ c.loop-name-test.true
    c.loop-name.invariant c.in_default.ensures.unnamed

pub loop-name-preserved : goal.loop-name-preserved
loop-name-preserved c =
    made_more c.args.arch runnable_call c.args.table.now c.loop-name.calls.items _ c.loop-name.name-index _ c.in-Some.number
    c.loop-name-test.true c.in_ok-push.ensures.items c.loop-name.invariant c.in-Some.ensures.named

pub returns : goal.returns
returns c = all_made c.args.arch runnable_call c.args.table.now c.loop-name.calls.items c.loop-name.name-index c.loop-name-test.false
    c.loop-name.invariant
