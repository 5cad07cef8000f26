use Rattle.std.proofs.Common.{arith}
use Rattle.std.proofs.lemmas.Grind.{common_steps}
use Rattle.seccomp_tree.proofs.decisions.Decisions.default_for.Goals as goal

pub loop-default-preserved : goal.loop-default-preserved
loop-default-preserved c = grind (arith, common_steps)
