use Rattle.std.proofs.Common.{[], ◌∷◌, ◌++◌, List}
use Rattle.seccomp_answers.specs.Findings.{AreAllFound, AreReturned}
use Rattle.seccomp_answers.specs.declared.findings.Finding.{Finding}
use Rattle.seccomp_answers.proofs.findings.pieces.cut_at.Given as goal

-- with what is found on the rest it is all that is found on the part
abbrev pub invariant-loop-border : goal.invariant-loop-border
invariant-loop-border g l = (more : List Finding)
    → AreAllFound l.fn.terms.target l.fn.terms.relation (AreReturned l.new l.old) (l.rest ∷ []) more
    → AreAllFound l.fn.terms.target l.fn.terms.relation (AreReturned l.new l.old) (l.fn.part ∷ []) (l.pieces.items ++ more)
