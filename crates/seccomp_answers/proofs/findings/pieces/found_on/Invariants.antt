use Rattle.std.proofs.Common.{take}
use Rattle.seccomp_answers.specs.Findings.{AreAllFound, AreReturned}
use Rattle.seccomp_answers.proofs.findings.pieces.found_on.Given as goal

-- all that is found on the parts so far
abbrev pub invariant-loop-part : goal.invariant-loop-part
invariant-loop-part g l =
    AreAllFound l.terms.target l.terms.relation (AreReturned l.new l.old) (take l.part-index l.parts) l.all.items
