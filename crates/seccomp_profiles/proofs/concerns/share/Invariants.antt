use Rattle.std.proofs.Common.{◌≡◌, length}
use Rattle.seccomp_profiles.specs.Decision.{share}
use Rattle.seccomp_profiles.proofs.concerns.share.Given as goal

abbrev pub invariant-loop-rest : goal.invariant-loop-rest
invariant-loop-rest l = share l.rest ≡ share l.args

abbrev pub decreases-loop-rest : goal.decreases-loop-rest
decreases-loop-rest l = length l.rest
