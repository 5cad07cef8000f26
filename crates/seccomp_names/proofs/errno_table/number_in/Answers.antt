use Rattle.std.proofs.Common.{arith}
use Rattle.std.proofs.lemmas.Grind.{common_steps}
use Rattle.seccomp_names.proofs.errno_table.number_in.Goals as goal

pub loop-error-preserved : goal.loop-error-preserved
loop-error-preserved c = grind (arith, common_steps)
