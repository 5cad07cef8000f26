use Rattle.seccomp_tree.proofs.Common.{ℕ, drop, First}
use Rattle.seccomp_tree.proofs.decisions.first_value.Given as goal

-- what those that are left name is what all name
abbrev pub invariant-loop-ruling : goal.invariant-loop-ruling
invariant-loop-ruling l = (w : ℕ) → First l.default l.call (drop l.ruling-index l.rulings) w → First l.default l.call l.rulings w
