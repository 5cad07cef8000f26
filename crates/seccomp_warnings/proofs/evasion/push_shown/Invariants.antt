use Rattle.seccomp_warnings.specs.Evasions.{AreEvasions}
use Rattle.seccomp_warnings.proofs.evasion.push_shown.Given as goal

-- so it is of the pairs so far
abbrev pub invariant-loop-pair : goal.invariant-loop-pair
invariant-loop-pair l = AreEvasions l.allowed l.lowered l.fn.found.items → AreEvasions l.allowed l.lowered l.found.items
