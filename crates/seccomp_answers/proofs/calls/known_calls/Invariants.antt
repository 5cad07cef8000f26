use Rattle.std.proofs.Common.{take}
use Rattle.seccomp_answers.proofs.calls.Calls.{AreCallsOn}
use Rattle.seccomp_answers.proofs.calls.known_calls.Given as goal

-- those so far are the text's calls on the architectures so far
abbrev pub invariant-loop-target : goal.invariant-loop-target
invariant-loop-target l = AreCallsOn l.call (take l.target-index l.targets) l.calls.items
