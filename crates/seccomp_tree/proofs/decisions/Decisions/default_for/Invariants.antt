use Rattle.seccomp_tree.proofs.Common.{◌≡◌, drop, default_from, default_for}
use Rattle.seccomp_tree.proofs.decisions.Decisions.default_for.Given as goal

abbrev pub invariant-loop-default : goal.invariant-loop-default
invariant-loop-default l = default_from l.value (drop l.default-index l.self.defaults) l.number ≡ default_for l.self.defaults l.number
