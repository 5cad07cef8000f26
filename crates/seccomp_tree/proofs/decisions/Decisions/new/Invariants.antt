use Rattle.seccomp_tree.proofs.Common.{◌↔◌, drop, StartAbove}
use Rattle.seccomp_tree.proofs.decisions.Decisions.new.Given as goal

-- all defaults are above the first exactly if those that are left are above the last one
abbrev pub invariant-loop-next : goal.invariant-loop-next
invariant-loop-next l = StartAbove 0 (drop 1 l.fn.defaults.items) ↔ StartAbove l.last (drop l.next-index l.next-items)
