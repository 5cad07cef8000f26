use Rattle.std.proofs.Common.{take}
use Rattle.seccomp_learn.specs.Usual.{AreOfNames, entries_of, runnable_call}
use Rattle.seccomp_learn.proofs.usual.calls_in.Given as goal

abbrev pub invariant-loop-name : goal.invariant-loop-name
invariant-loop-name l = AreOfNames l.arch runnable_call (entries_of (take l.name-index l.table)) l.calls.items
