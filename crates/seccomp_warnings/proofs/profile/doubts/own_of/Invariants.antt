use Rattle.std.proofs.Common.{All}
use Rattle.seccomp_warnings.specs.ProfileWarnings.{IsTrueOf}
use Rattle.seccomp_warnings.proofs.profile.doubts.own_of.Given as goal

-- those so far are so
abbrev pub invariant-loop-warning : goal.invariant-loop-warning
invariant-loop-warning l = All (IsTrueOf l.allowed l.profile l.lowered) l.all.items
