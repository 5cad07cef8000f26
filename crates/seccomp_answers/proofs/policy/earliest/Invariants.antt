use Rattle.std.proofs.Common.{◌<◌, length}
use Rattle.seccomp_answers.proofs.policy.earliest.Given as goal

-- the fault that is told is among the faults, if the first one is
abbrev pub invariant-loop-place : goal.invariant-loop-place
invariant-loop-place l = l.fn.first < length l.fn.faults → l.told < length l.fn.faults
