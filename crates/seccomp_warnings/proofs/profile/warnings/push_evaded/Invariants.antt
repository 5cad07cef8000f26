use Rattle.std.proofs.Common.{All}
use Rattle.seccomp_profiles.specs.Types.{Profile}
use Rattle.seccomp_warnings.specs.ProfileWarnings.{IsTrueOf}
use Rattle.seccomp_warnings.proofs.profile.warnings.push_evaded.Given as goal

-- so they are with the evasions so far
abbrev pub invariant-loop-evasion : goal.invariant-loop-evasion
invariant-loop-evasion l =
    (p : Profile) → All (IsTrueOf l.allowed p l.lowered) l.fn.all.items → All (IsTrueOf l.allowed p l.lowered) l.all.items
