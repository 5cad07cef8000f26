use Rattle.seccomp_tree.proofs.{Common.◌-◌, Common.◌^◌, Trees.Halving}
use Rattle.seccomp_tree.proofs.code.Code.argument.Given as goal

abbrev pub invariant-loop-number : goal.invariant-loop-number
invariant-loop-number l = Halving l.initial.self l.index l.steps l.number l.rest l.lows.items l.highs.items l.self

abbrev pub decreases-loop-number : goal.decreases-loop-number
decreases-loop-number l = 2 ^ 64 - l.number
