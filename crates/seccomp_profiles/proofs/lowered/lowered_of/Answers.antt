use Rattle.std.proofs.Common.{ap, subst}
use Rattle.seccomp_profiles.specs.Concerns.{AreAskedTo}
use Rattle.seccomp_profiles.specs.Types.{Profile}
use Rattle.seccomp_profiles.proofs.lowered.Facts.{all_asked, decides}
use Rattle.seccomp_profiles.proofs.lowered.lowered_of.Goals as goal
use Rattle.seccomp_profiles.proofs.lowered.lowered_of.Goals.{After-machine}

asked : (c : After-machine) → AreAskedTo c.args.abi c.args.container.now c.args.profile.now.default c.args.own.now 9 0
    c.in_ok-entries.entries.items
asked c = subst (λ a. AreAskedTo c.args.abi c.args.container.now a c.args.own.now 9 0 c.in_ok-entries.entries.items)
    (ap (λ (p : Profile). p.default) c.profile.view_is) c.in_ok-entries.ensures

pub returns-clause-lowered : goal.returns-clause-lowered
returns-clause-lowered c = record {
  target_arch = c.machine.ensures;
  defaults = c.in_ok-defaults.ensures.values;
  exactly = all_asked c.args.abi c.args.container.now c.args.profile.now.default c.args.own.now c.in_ok-entries.entries.items (asked c);
  ordered = (asked c).ordered;
}

pub returns-clause-decides : goal.returns-clause-decides
returns-clause-decides c =
    decides c.args.abi c.args.container.now c.args.profile.now c.args.own.now _ (returns-clause-lowered c)

pub returns-clause-below : goal.returns-clause-below
returns-clause-below c = (asked c).below
