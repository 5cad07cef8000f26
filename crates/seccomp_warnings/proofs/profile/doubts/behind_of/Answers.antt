use Rattle.seccomp_warnings.proofs.profile.doubts.behind_of.Goals.{in-Some+in_ok-push_behind, in_default}
use Rattle.seccomp_warnings.proofs.profile.doubts.behind_of.Goals as goal

pub loop-number-preserved : goal.loop-number-preserved
loop-number-preserved c = elim c.match-settler_of.branch [
  | in-Some+in_ok-push_behind w ↦ rw w.all-is (λ p. w.in_ok-push_behind.ensures p (c.loop-number.invariant p))
  | in_default w ↦ rw w.all-is c.loop-number.invariant
]
