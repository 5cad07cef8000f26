use Rattle.std.proofs.Common.{◌<◌, ◌-◌}
use Rattle.seccomp_answers.proofs.findings.answer_on.Given as goal

-- where more sets may be looked at, some are
abbrev pub invariant-loop-call : goal.invariant-loop-call
invariant-loop-call g l = l.sets < l.terms.most → 0 < l.sets

abbrev pub decreases-loop-call : goal.decreases-loop-call
decreases-loop-call g l = l.terms.most - l.sets
