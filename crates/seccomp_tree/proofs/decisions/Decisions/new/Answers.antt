use Rattle.std.proofs.Common.{arith}
use Rattle.std.proofs.lemmas.Grind.{common_steps}
use Rattle.seccomp_tree.proofs.decisions.Decisions.new.Goals as goal

pub loop-next-preserved : goal.loop-next-preserved
loop-next-preserved c = grind (arith, common_steps)
