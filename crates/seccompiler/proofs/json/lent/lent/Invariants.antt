use Rattle.std.proofs.Common.{◌≡◌, ◌+◌, ◌≤◌, take, length}
use Rattle.seccompiler.proofs.json.lent.lent.Given as goal

abbrev pub invariant-loop-rule : goal.invariant-loop-rule
invariant-loop-rule l = (l.rules.items ≡ take l.rule-index l.filter.rules)
    × (l.rules.len + length l.filter.rules ≤ l.rules.cap + l.rule-index)
