use Rattle.seccomptool.proofs.Common.{AllZip, take}
use Rattle.seccomptool.specs.Learn.{IsTraceOf}
use Rattle.seccomptool.proofs.learn.traces_of.Given as goal

-- those so far are read
abbrev pub invariant-loop-input : goal.invariant-loop-input
invariant-loop-input g l = AllZip (IsTraceOf g.O.Outside.reads l.asked) (take l.input-index l.traced) l.traces.items
