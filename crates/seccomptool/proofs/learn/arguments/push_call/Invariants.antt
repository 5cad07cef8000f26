use Rattle.seccomptool.proofs.Common.{take}
use Rattle.seccomptool.specs.Learn.{InTurn, IsWithArgument, indices}
use Rattle.seccomptool.proofs.learn.arguments.push_call.Given as goal

-- those of the indices so far are added
abbrev pub invariant-loop-index : goal.invariant-loop-index
invariant-loop-index l =
    InTurn (IsWithArgument l.observed l.number l.call.indices) (take l.index indices) l.fn.wanted.items l.wanted.items
