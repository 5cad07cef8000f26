use Rattle.std.proofs.Common.{take}
use Rattle.std.specs.Prelude.{All}
use Rattle.seccompiler.specs.Policy.{Holds}
use Rattle.seccompiler.proofs.rule.SeccompRule.holds.Given as goal

-- each condition so far holds
abbrev pub invariant-loop-condition : goal.invariant-loop-condition
invariant-loop-condition l = All (λ condition. Holds condition l.call) (take l.condition-index l.condition-items)
