use Rattle.std.proofs.Common.{take}
use Rattle.seccomp_compare.specs.Cover.{OnRule}
use Rattle.seccomp_compare.proofs.covered.on_rule.Given as goal

-- so it is of the conditions so far
abbrev pub invariant-loop-condition : goal.invariant-loop-condition
invariant-loop-condition l = OnRule l.part l.own (take l.condition-index l.rule) l.seen
