use Rattle.std.proofs.lemmas.List.Elements.{All-push}
use Rattle.seccomp_entries.specs.Entries.{Lowered}
use Rattle.seccomp_warnings.specs.ProfileWarnings.{IsTrueOf}
use Rattle.seccomp_warnings.proofs.profile.warnings.push_evaded.Goals.{in-Some+in_ok-push, in_default}
use Rattle.seccomp_warnings.proofs.profile.warnings.push_evaded.Goals as goal

pub loop-evasion-preserved : goal.loop-evasion-preserved
loop-evasion-preserved c =
    let l : Lowered = c.args.lowered.now in
    let own = c.requires c.loop-evasion.evasion-index _ c.loop-evasion-test.true in
    elim c.match-origin_at.branch [
      | in-Some+in_ok-push w ↦ λ p so. rw (w.all-is, w.in_ok-push.ensures.items)
          (All-push (IsTrueOf c.args.allowed.now p l) c.loop-evasion.all.items _ (c.loop-evasion.invariant p so)
          ((own.0, w.in-Some.ensures), own.1))
      | in_default w ↦ λ p so. rw w.all-is (c.loop-evasion.invariant p so)
    ]
