use Rattle.std.proofs.Common.{◌≡◌, ◌++◌, ◌+◌, ◌≤◌, length}
use Rattle.std.specs.Vec.Iter.{into_iter_items}
use Rattle.seccompiler.proofs.json.lent.owned.Given as goal

abbrev pub invariant-loop-rule : goal.invariant-loop-rule
invariant-loop-rule l = (l.rules.items ++ into_iter_items l.rule-iterator ≡ l.fn.filter.rules)
    × (l.rules.len + length (into_iter_items l.rule-iterator) ≤ l.rules.cap)
