use Rattle.seccomp_tree.{proofs.Begun.Filling, proofs.Common.◌-◌, specs.Code.numbers_of}
use Rattle.seccomp_tree.proofs.steps.filled.Given as goal

abbrev pub invariant-loop-number : goal.invariant-loop-number
invariant-loop-number l = Filling (numbers_of l.fn.length) l.front l.back l.number l.ahead l.behind l.steps.items

abbrev pub decreases-loop-number : goal.decreases-loop-number
decreases-loop-number l = numbers_of l.fn.length - l.number
