use Rattle.std.proofs.Common.{map, take}
use Rattle.seccomp_compare.specs.Cover.{OnRules}
use Rattle.seccomp_compare.proofs.covered.on_rules.Given as goal

-- so it is of the rules so far
abbrev pub invariant-loop-rule : goal.invariant-loop-rule
invariant-loop-rule l = OnRules l.part l.own (map (λ q. q.now) (take l.rule-index l.others)) l.seen
