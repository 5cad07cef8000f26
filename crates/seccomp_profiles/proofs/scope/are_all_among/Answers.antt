use Rattle.std.proofs.Common.{arith}
use Rattle.std.proofs.lemmas.Grind.{common_steps}
use Rattle.seccomp_profiles.proofs.scope.are_all_among.Goals as goal

pub loop-text-preserved : goal.loop-text-preserved
loop-text-preserved c = grind (arith, common_steps)
