use Rattle.std.proofs.Common.{All}
use Rattle.seccomp_warnings.specs.AbiEvasions.{IsBetween}
use Rattle.seccomp_warnings.proofs.profile.abi.found_by.Given as goal

-- those of the calls so far
abbrev pub invariant-loop-denied : goal.invariant-loop-denied
invariant-loop-denied l = All (IsBetween l.sides.abi l.sides.own.now l.sides.others.now) l.all.items
