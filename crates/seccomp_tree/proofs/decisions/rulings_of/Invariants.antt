use Rattle.seccomp_tree.proofs.Common.{◌≡◌, map, take}
use Rattle.seccomp_tree.proofs.decisions.rulings_of.Given as goal

-- the rulings of the rules so far
abbrev pub invariant-loop-rule : goal.invariant-loop-rule
invariant-loop-rule l = l.rulings.items ≡ map (λ rule. record { conditions = rule; value = l.value }) (take l.rule-index l.chain)
