use Rattle.std.proofs.Common.{arith}
use Rattle.std.proofs.lemmas.Grind.{common_steps}
use Rattle.seccomp_warnings.proofs.profile.parts.each_part.Goals as goal

pub loop-action-preserved : goal.loop-action-preserved
loop-action-preserved c = grind (arith, common_steps)
