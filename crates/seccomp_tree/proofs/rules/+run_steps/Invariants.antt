use Rattle.seccomp_tree.proofs.Common.{length}
use Rattle.seccomp_tree.proofs.rules.+run_steps.Given as goal

abbrev pub decreases-run_steps : goal.decreases-run_steps
decreases-run_steps l = length l.run.now
