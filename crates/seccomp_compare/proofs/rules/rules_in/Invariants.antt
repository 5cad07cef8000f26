use Rattle.std.proofs.Common.{◌≡◌, map, take}
use Rattle.seccomp_compare.proofs.rules.rules_in.Given as goal

-- they are the rules so far
abbrev pub invariant-loop-rule : goal.invariant-loop-rule
invariant-loop-rule l = map (λ q. q.now) l.rules.items ≡ take l.rule-index l.chain
