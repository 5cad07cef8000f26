use Rattle.std.proofs.Common.{take}
use Rattle.seccomp_learn.specs.Usual.{AreOfNames, entries_of, usual_argument}
use Rattle.seccomp_learn.proofs.usual.kept_in.Given as goal

abbrev pub invariant-loop-name : goal.invariant-loop-name
invariant-loop-name l = AreOfNames l.arch usual_argument (entries_of (take l.name-index l.table)) l.kept.items
