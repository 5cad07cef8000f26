use Rattle.std.proofs.Common.{◌∙◌, List, ap, map}
use Rattle.seccomp_entries.specs.declared.entry.Action.{Action}
use Rattle.seccomp_warnings.specs.ProfileParts.{part_of}
use Rattle.seccomp_warnings.proofs.profile.parts.parts_of.Goals as goal

pub returns : goal.returns
returns c = record {
  actions = c.in_ok-actions.actions.items;
  are_actions = c.in_ok-actions.ensures;
  are = c.in_ok-parts.ensures
      ∙ ap (λ (all : List Action). map (part_of c.args.target c.args.default c.args.effective.now) all) c.deref.ensures.value;
}
