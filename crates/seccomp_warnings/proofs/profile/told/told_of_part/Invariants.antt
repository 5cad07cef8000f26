use Rattle.std.proofs.Common.{All}
use Rattle.seccomp_warnings.specs.ProfileWarnings.{IsOfPart}
use Rattle.seccomp_warnings.proofs.profile.told.told_of_part.Given as goal

-- what is told so far
abbrev pub invariant-loop-warning : goal.invariant-loop-warning
invariant-loop-warning l = All (IsOfPart l.allowed l.part) l.told.items
