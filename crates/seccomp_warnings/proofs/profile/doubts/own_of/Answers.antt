use Rattle.std.proofs.lemmas.List.Elements.{All-push}
use Rattle.seccomp_warnings.specs.ProfileWarnings.{IsTrueOf}
use Rattle.seccomp_warnings.proofs.profile.doubts.own_of.Goals.{then-is_true+in_ok-push, else-is_true}
use Rattle.seccomp_warnings.proofs.profile.doubts.own_of.Goals as goal

pub loop-warning-preserved : goal.loop-warning-preserved
loop-warning-preserved c = elim c.if-is_true.branch [
  | then-is_true+in_ok-push w ↦ rw (w.all-is, w.in_ok-push.ensures.items)
      (All-push (IsTrueOf c.args.allowed.now c.args.profile.now c.args.lowered.now) c.loop-warning.all.items _ c.loop-warning.invariant
      (c.is_true.ensures w.if-is_true.true))
  | else-is_true w ↦ rw w.all-is c.loop-warning.invariant
]
