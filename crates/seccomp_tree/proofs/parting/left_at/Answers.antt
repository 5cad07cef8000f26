use Rattle.std.proofs.Common.{arith}
use Rattle.std.proofs.lemmas.Grind.{common_steps}
use Rattle.seccomp_tree.proofs.parting.left_at.Goals as goal

pub loop-ruling-preserved : goal.loop-ruling-preserved
loop-ruling-preserved c = grind (arith, common_steps)
