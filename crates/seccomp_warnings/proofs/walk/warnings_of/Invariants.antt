use Rattle.std.proofs.Common.{take}
use Rattle.seccomp_warnings.specs.Warnings.{AreGiven}
use Rattle.seccomp_warnings.proofs.walk.warnings_of.Given as goal

-- those about the subjects so far
abbrev pub invariant-loop-subject : goal.invariant-loop-subject
invariant-loop-subject l = AreGiven l.allowed l.verdicts.items l.part (take l.subject-index l.subject-items) l.warnings.items
