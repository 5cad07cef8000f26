use Rattle.std.proofs.Common.{◌≤◌, length, take}
use Rattle.seccompiler.specs.ChainCode.{IsRulesCode}
use Rattle.seccompiler.proofs.chain.write_rules.Given as goal

abbrev pub invariant-loop-rule : goal.invariant-loop-rule
invariant-loop-rule l = record {
  code : IsRulesCode (take l.rule-index l.chain) l.matched (take l.start l.part);
  within : l.start ≤ length l.part;
}
