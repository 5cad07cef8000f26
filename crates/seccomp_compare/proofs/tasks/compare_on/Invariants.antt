use Rattle.std.proofs.Common.{length}
use Rattle.seccomp_compare.proofs.TasksLeft.{AreLeft}
use Rattle.seccomp_compare.proofs.tasks.compare_on.Given as goal

-- of each record the words are related, or it lies in the set of a task that is left
abbrev pub invariant-loop : goal.invariant-loop
invariant-loop l = AreLeft l.fn.relation l.p l.q l.part l.tasks.items

-- the same
abbrev pub invariant-loop-task : goal.invariant-loop-task
invariant-loop-task l = AreLeft l.fn.relation l.p l.q l.part l.tasks.items

abbrev pub decreases-loop-task : goal.decreases-loop-task
decreases-loop-task l = length l.tasks.items
