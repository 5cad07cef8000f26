use Rattle.seccomp_warnings.specs.Evasions.{AreEvasions}
use Rattle.seccomp_warnings.proofs.evasion.evasions_of.Given as goal

-- those of the entries so far
abbrev pub invariant-loop-place : goal.invariant-loop-place
invariant-loop-place l = AreEvasions l.allowed l.lowered l.found.items
