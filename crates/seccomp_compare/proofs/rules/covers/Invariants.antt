use Rattle.std.proofs.Common.{ℕ, Bor, List, map, take}
use Rattle.std.specs.Prelude.{All}
use Rattle.seccompiler.specs.declared.condition.SeccompCondition.{SeccompCondition}
use Rattle.seccomp_compare.specs.Cover.{IsCallOf, SomeHolds}
use Rattle.seccomp_compare.proofs.rules.covers.Given as goal

-- the rules so far are covered
abbrev pub invariant-loop-rule : goal.invariant-loop-rule
invariant-loop-rule l = All (λ (q : Bor (List SeccompCondition)). (r : List ℕ) → IsCallOf l.arch l.number q.now r
    → SomeHolds (map (λ q. q.now) l.others) r) (take l.rule-index l.rules)
