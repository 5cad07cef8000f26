use Rattle.seccomp_tree.proofs.Common.{◌≡◌, ◌++◌, drop}
use Rattle.seccomp_tree.specs.Parts.{left_at}
use Rattle.seccomp_tree.proofs.parting.left_at.Given as goal

abbrev pub invariant-loop-ruling : goal.invariant-loop-ruling
invariant-loop-ruling l = l.left.items ++ left_at (drop l.ruling-index l.rulings) l.value ≡ left_at l.rulings l.value
