use Rattle.std.proofs.Common.{take}
use Rattle.std.specs.Prelude.{All}
use Rattle.seccompiler.specs.Policy.{RuleHolds}
use Rattle.seccompiler.proofs.filter.SeccompFilter.matches.Given as goal

-- no rule so far holds
abbrev pub invariant-loop-rule : goal.invariant-loop-rule
invariant-loop-rule l = All (λ rule. RuleHolds rule l.call → ⊥) (take l.rule-index l.rule-items)
