use Rattle.seccomp_tree.proofs.Meeting.{Ascending}
use Rattle.seccomp_tree.proofs.rules.ascending_steps.Given as goal

abbrev pub invariant-loop-ruling : goal.invariant-loop-ruling
invariant-loop-ruling l = Ascending l.like l.run l.ruling-index l.next l.steps.items
