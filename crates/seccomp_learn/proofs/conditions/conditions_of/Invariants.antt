use Rattle.std.proofs.Common.{◌↔◌, ℕ, List, All, map, take}
use Rattle.seccompiler.specs.JsonPolicyOf.{condition_of}
use Rattle.seccompiler.specs.Policy.{RuleHolds}
use Rattle.seccomp_learn.specs.Observed.{HasSeenValue}
use Rattle.seccomp_learn.proofs.conditions.conditions_of.Given as goal

abbrev pub invariant-loop-each : goal.invariant-loop-each
invariant-loop-each l = (r : List ℕ) → RuleHolds (map condition_of l.conditions.items) r
    ↔ All (HasSeenValue r l.observation) (take l.each-index l.kept)
