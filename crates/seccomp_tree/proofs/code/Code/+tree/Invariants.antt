use Rattle.seccomp_tree.proofs.Common.{length}
use Rattle.seccomp_tree.proofs.code.Code.+tree.Given as goal

abbrev pub decreases-tree : goal.decreases-tree
decreases-tree l = length l.steps.now
