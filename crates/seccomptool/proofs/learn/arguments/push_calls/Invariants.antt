use Rattle.seccomptool.proofs.Common.{take}
use Rattle.seccomptool.specs.Learn.{AreWithCall, InTurn}
use Rattle.seccomptool.proofs.learn.arguments.push_calls.Given as goal

-- those of the calls so far are added
abbrev pub invariant-loop-call : goal.invariant-loop-call
invariant-loop-call l = InTurn (AreWithCall l.arch l.observed) (take l.call-index l.calls) l.fn.wanted.items l.wanted.items
