use Rattle.seccomp_tree.proofs.Common.{joined, length, drop, ◌+◌, ◌≡◌, ◌≤◌}
use Rattle.seccomp_tree.proofs.{Meeting.AreRules, Meeting.in_front}
use Rattle.seccomp_tree.proofs.code.Code.rules.Given as goal

-- the rulings end that are of one run with the one in front of them, and the target goes on as those behind
abbrev pub invariant-loop-left : goal.invariant-loop-left
invariant-loop-left l = record {
  within : l.left ≤ length l.rulings;
  ends : l.end ≡ l.left + joined (in_front l.rulings l.left) (drop l.left l.rulings);
  rules : AreRules l.initial.self (drop l.end l.rulings) l.default l.after l.self;
}

abbrev pub decreases-loop-left : goal.decreases-loop-left
decreases-loop-left l = l.left
