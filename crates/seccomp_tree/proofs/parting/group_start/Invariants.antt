use Rattle.seccomp_tree.proofs.Common.{◌≡◌, ◌≤◌, drop, length, true}
use Rattle.seccomp_tree.specs.Parts.{AreAlone, AreParted}
use Rattle.seccomp_tree.proofs.parting.group_start.Given as goal

-- The rulings from the start on are parted.
abbrev pub invariant-loop-start : goal.invariant-loop-start
invariant-loop-start l = record {
  within : l.start ≤ length l.rulings;
  parted : AreParted l.shared (drop l.start l.rulings);
  alone : l.alone ≡ true → AreAlone (drop l.start l.rulings);
}

abbrev pub decreases-loop-start : goal.decreases-loop-start
decreases-loop-start l = l.start
