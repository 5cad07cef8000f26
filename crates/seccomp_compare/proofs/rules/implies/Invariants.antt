use Rattle.std.proofs.Common.{ℕ, List, take}
use Rattle.seccompiler.specs.Policy.{RuleHolds}
use Rattle.seccomp_compare.proofs.rules.implies.Given as goal

-- the conditions so far hold where the rule does
abbrev pub invariant-loop-condition : goal.invariant-loop-condition
invariant-loop-condition l = (r : List ℕ) → RuleHolds l.fn.rule r → RuleHolds (take l.condition-index l.other) r
