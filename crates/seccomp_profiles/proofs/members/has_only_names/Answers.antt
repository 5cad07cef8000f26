use Rattle.std.proofs.Common.{◌↔◌, map, subst}
use Rattle.serde_json.specs.Data.{object}
use Rattle.serde_json.specs.View.{members_view}
use Rattle.seccompiler.specs.JsonShape.{HasOnly}
use Rattle.seccomp_profiles.proofs.members.ObjectNames.{only_left, only_fails}
use Rattle.seccomp_profiles.proofs.members.has_only_names.Goals as goal

pub returns-then-not-is_among : goal.returns-then-not-is_among
returns-then-not-is_among c =
    let names = map (λ n. n.now) c.args.names.now in
    let so_far = subst (λ es. HasOnly (object (members_view es)) names ↔ HasOnly (object (members_view c.args.members.now.entries)) names)
    c.in-Some.ensures.steps c.loop-name.invariant in
    (λ h. absurd cc, λ h. absurd (only_fails _ _ _ names so_far (cc) h))

pub loop-name-preserved : goal.loop-name-preserved
loop-name-preserved c =
    let names = map (λ n. n.now) c.args.names.now in
    let so_far = subst (λ es. HasOnly (object (members_view es)) names ↔ HasOnly (object (members_view c.args.members.now.entries)) names)
    c.in-Some.ensures.steps c.loop-name.invariant in
    only_left _ _ _ names so_far cc
