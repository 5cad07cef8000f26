use Rattle.std.proofs.Common.{arith}
use Rattle.std.proofs.lemmas.Grind.{common_steps}
use Rattle.seccomp_answers.proofs.diff.Diff.verdict.Goals as goal

pub loop-named-preserved : goal.loop-named-preserved
loop-named-preserved c = grind (arith, common_steps)
