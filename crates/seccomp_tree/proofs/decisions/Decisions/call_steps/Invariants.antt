use Rattle.seccomp_tree.specs.Code.{AllAnswer}
use Rattle.seccomp_tree.proofs.{Common.AreCallSteps, Common.◌-◌, Common.◌^◌, Common.◌≤◌, Decided.below_length}
use Rattle.seccomp_tree.proofs.decisions.Decisions.call_steps.Given as goal

abbrev pub invariant-loop-next : goal.invariant-loop-next
invariant-loop-next l =
    (l.next ≤ 2 ^ 32) × AllAnswer l.self l.code l.seen.items
    × AreCallSteps l.initial.code l.self (below_length l.self.calls l.next) l.next l.steps.items l.code

abbrev pub decreases-loop-next : goal.decreases-loop-next
decreases-loop-next l = 2 ^ 32 - l.next
