use Rattle.std.proofs.Common.{All}
use Rattle.seccomp_profiles.specs.Types.{Profile}
use Rattle.seccomp_warnings.specs.ProfileWarnings.{IsTrueOf}
use Rattle.seccomp_warnings.proofs.profile.doubts.behind_of.Given as goal

-- those so far are so
abbrev pub invariant-loop-number : goal.invariant-loop-number
invariant-loop-number l = (p : Profile) → All (IsTrueOf l.allowed p l.lowered) l.all.items
