use Rattle.seccomp_tree.proofs.Decided.{CallsSoFar}
use Rattle.seccomp_tree.proofs.decisions.Decisions.of_filter.Given as goal

abbrev pub invariant-loop-number : goal.invariant-loop-number
invariant-loop-number l = CallsSoFar l.match_value l.filter.chains l.number-iterator l.calls.entries
