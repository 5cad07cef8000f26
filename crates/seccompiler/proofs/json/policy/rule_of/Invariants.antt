use Rattle.std.proofs.Common.{◌≡◌, ◌+◌, ◌≤◌, All, map, take, length}
use Rattle.seccompiler.specs.JsonPolicyOf.{condition_of}
use Rattle.seccompiler.proofs.json.policy.rule_of.Given as goal

abbrev pub invariant-loop-condition : goal.invariant-loop-condition
invariant-loop-condition l = record {
  made : l.found.items ≡ map condition_of (take l.condition-index l.conditions);
  indices : All (λ c. c.arg_index ≤ 5) (take l.condition-index l.conditions);
  room : l.found.len + length l.conditions ≤ l.found.cap + l.condition-index;
}
