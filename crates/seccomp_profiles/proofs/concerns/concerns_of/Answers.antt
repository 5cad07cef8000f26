use Rattle.seccomp_profiles.specs.Concerns.{IsConcernOf}
use Rattle.seccomp_profiles.proofs.Zipped.{zip_read}
use Rattle.seccomp_profiles.proofs.concerns.concerns_of.Goals as goal

pub loop-entry-preserved : goal.loop-entry-preserved
loop-entry-preserved c = zip_read (IsConcernOf c.args.abi c.args.container.now c.args.default) c.args.entries.now
    c.loop-entry.entry-index _ _ _ _ c.loop-entry-test.true c.entry-item.is c.in_ok-push.ensures.items c.loop-entry.invariant
    c.in_ok-concern_of.ensures
