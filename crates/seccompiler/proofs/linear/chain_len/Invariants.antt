use Rattle.std.proofs.Common.{◌≡◌, ◌+◌, ◌-◌, ◌^◌, min, take}
use Rattle.seccompiler.specs.Layout.{rules_length}
use Rattle.seccompiler.proofs.linear.chain_len.Given as goal

-- the length of the chain's ends and of the rules so far, or the greatest number if that is less
abbrev pub invariant-loop-rule : goal.invariant-loop-rule
invariant-loop-rule l = l.length ≡ min (2 + rules_length (take l.rule-index l.chain)) (2 ^ 64 - 1)
