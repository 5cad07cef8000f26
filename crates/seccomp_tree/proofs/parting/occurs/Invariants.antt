use Rattle.seccomp_tree.proofs.Common.{◌≡◌, drop}
use Rattle.seccomp_tree.specs.Parts.{occurs}
use Rattle.seccomp_tree.proofs.parting.occurs.Given as goal

abbrev pub invariant-loop-ruling : goal.invariant-loop-ruling
invariant-loop-ruling l = occurs l.rulings l.value ≡ occurs (drop l.ruling-index l.rulings) l.value
