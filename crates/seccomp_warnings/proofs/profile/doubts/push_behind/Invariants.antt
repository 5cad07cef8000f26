use Rattle.std.proofs.Common.{All}
use Rattle.seccomp_profiles.specs.Types.{Profile}
use Rattle.seccomp_warnings.specs.ProfileWarnings.{IsTrueOf}
use Rattle.seccomp_warnings.proofs.profile.doubts.push_behind.Given as goal

-- those so far are so
abbrev pub invariant-loop-entry : goal.invariant-loop-entry
invariant-loop-entry l =
    (p : Profile) → All (IsTrueOf l.allowed p l.lowered) l.initial.all.items → All (IsTrueOf l.allowed p l.lowered) l.all.items
