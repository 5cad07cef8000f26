use Rattle.std.proofs.Common.{arith}
use Rattle.std.proofs.lemmas.Grind.{common_steps}
use Rattle.seccompiler_c.proofs.demands.count_rules.Goals as goal

pub loop-chain-preserved : goal.loop-chain-preserved
loop-chain-preserved c = grind (arith, common_steps)
