use Rattle.std.proofs.Common.{take}
use Rattle.seccompiler.proofs.rule.RuleLoops.{Counted}
use Rattle.seccompiler.proofs.rule.SeccompRule.code_len.Given as goal

abbrev pub invariant-loop-condition : goal.invariant-loop-condition
invariant-loop-condition l = Counted (take l.condition-index l.condition-items) l.length l.offset
