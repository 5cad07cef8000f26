use Rattle.std.proofs.Common.{◌≡◌}
use Rattle.seccomp_warnings.specs.ProfileParts.{effective_below}
use Rattle.seccomp_warnings.proofs.profile.parts.effective_of.Given as goal

-- those of the numbers so far
abbrev pub invariant-loop-number : goal.invariant-loop-number
invariant-loop-number l = l.all.items ≡ effective_below l.number l.entries
