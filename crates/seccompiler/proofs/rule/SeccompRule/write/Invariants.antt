use Rattle.std.proofs.Common.{◌≡◌, ◌+◌, length, take, drop}
use Rattle.seccompiler.specs.Layout.{rule_length}
use Rattle.seccompiler.proofs.rule.RuleLoops.{Built}
use Rattle.seccompiler.proofs.rule.SeccompRule.write.Given as goal

abbrev pub invariant-loop-condition : goal.invariant-loop-condition
invariant-loop-condition l = record {
  built : Built (take l.condition-index l.condition-items) (drop l.end l.part) l.offset;
  free : l.end + length (drop l.end l.part) ≡ rule_length l.condition-items;
}
