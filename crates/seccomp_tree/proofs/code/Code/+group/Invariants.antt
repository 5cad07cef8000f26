use Rattle.seccomp_tree.proofs.Common.{drop, take, length, ◌*◌, ◌+◌, ◌≤◌}
use Rattle.seccomp_tree.proofs.Parts.{Chain}
use Rattle.seccomp_tree.specs.Parts.{AreInTurn}
use Rattle.seccomp_tree.proofs.code.Code.+group.Given as goal

abbrev pub decreases-group : goal.decreases-group
decreases-group l = 3 * l.again

abbrev pub decreases-parted : goal.decreases-parted
decreases-parted l = 3 * l.again + 2

abbrev pub decreases-in_turn : goal.decreases-in_turn
decreases-in_turn l = 3 * l.again + 1

abbrev pub invariant-parted-loop-left : goal.invariant-parted-loop-left
invariant-parted-loop-left l = Chain l.shared (take l.left l.rulings) (drop l.left l.rulings) l.initial.self l.fn.after l.target l.self

abbrev pub invariant-in_turn-loop-left : goal.invariant-in_turn-loop-left
invariant-in_turn-loop-left l = record {
  within : l.left ≤ length l.rulings;
  turn : AreInTurn (drop l.left l.rulings) l.initial.self l.fn.after l.target l.self;
}

abbrev pub decreases-in_turn-loop-left : goal.decreases-in_turn-loop-left
decreases-in_turn-loop-left l = l.left
