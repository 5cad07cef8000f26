use Rattle.std.proofs.Common.{◌≡◌, length}
use Rattle.seccomp_profiles.specs.Decision.{are_idle}
use Rattle.seccomp_profiles.proofs.concerns.are_idle.Given as goal

abbrev pub invariant-loop-rest : goal.invariant-loop-rest
invariant-loop-rest l = are_idle l.rest ≡ are_idle l.args

abbrev pub decreases-loop-rest : goal.decreases-loop-rest
decreases-loop-rest l = length l.rest
