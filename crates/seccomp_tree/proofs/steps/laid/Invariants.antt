use Rattle.seccomp_tree.{proofs.Begun.Laying, proofs.Common.◌-◌, specs.Code.numbers_of}
use Rattle.seccomp_tree.proofs.steps.laid.Given as goal

abbrev pub invariant-loop-number : goal.invariant-loop-number
invariant-loop-number l = Laying l.condition l.target l.other l.number l.steps.items

abbrev pub decreases-loop-number : goal.decreases-loop-number
decreases-loop-number l = numbers_of l.condition.arg_len - l.number
