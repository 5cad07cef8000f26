use Rattle.seccomp_tree.proofs.Common.{drop, ◌≡◌}
use Rattle.seccomp_tree.proofs.program.are_same.Given as goal

-- all is the same if what is left is
abbrev pub invariant-loop-index : goal.invariant-loop-index
invariant-loop-index l = drop l.index l.rulings ≡ drop l.index l.others → l.rulings ≡ l.others
