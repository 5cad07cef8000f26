use Rattle.seccomptool.proofs.Common.{AskedArguments, IsUncalled, err_from_is_err_and}
use Rattle.seccomptool.specs.Learn.{AreWithCall}
use Rattle.seccomptool.proofs.Wanted.{some_has, turn_all, turn_more}
use Rattle.seccomptool.proofs.learn.arguments.push_calls.Goals as goal

pub loop-call-preserved : goal.loop-call-preserved
loop-call-preserved c =
    turn_more (AreWithCall c.args.arch c.args.observed.now) c.args.calls.now c.loop-call.call-index _ c.args.wanted.now.items
    c.loop-call.wanted.items c.push_call.new.wanted.items c.loop-call-test.true c.loop-call.invariant c.in_ok-push_call.ensures.added

pub returns-clause-added : goal.returns-clause-added
returns-clause-added c =
    turn_all (AreWithCall c.args.arch c.args.observed.now) c.args.calls.now c.loop-call.call-index c.args.wanted.now.items
    c.loop-call.wanted.items c.loop-call-test.false c.loop-call.invariant

pub returns-in_err-push_call-clause-cause : goal.returns-in_err-push_call-clause-cause
returns-in_err-push_call-clause-cause c =
    let error = err_from_is_err_and c.from_residual.result c.from_residual.ensures.1 in
    rw (error.1, error.2) (some_has (λ (call : AskedArguments). IsUncalled c.args.arch call.call.now c.in_err-push_call.field-0.0)
    c.args.calls.now c.loop-call.call-index _ c.loop-call-test.true c.in_err-push_call.ensures.cause)
