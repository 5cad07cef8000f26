use Rattle.std.proofs.Common.{All}
use Rattle.std.specs.Prelude.{Any}
use Rattle.seccomp_warnings.specs.ProfileWarnings.{IsOfPart}
use Rattle.seccomp_warnings.proofs.profile.told.told_of.Given as goal

-- what is told of the parts so far
abbrev pub invariant-loop-part : goal.invariant-loop-part
invariant-loop-part l = All (λ w. Any (λ q. IsOfPart l.allowed q w) l.part-items) l.told.items
