use Rattle.std.proofs.Common.{◌↔◌, map}
use Rattle.serde_json.specs.Data.{object}
use Rattle.serde_json.specs.View.{members_view}
use Rattle.seccompiler.specs.JsonShape.{HasOnly}
use Rattle.seccomp_profiles.proofs.members.has_only_names.Given as goal

abbrev pub invariant-loop-name : goal.invariant-loop-name
invariant-loop-name l = HasOnly (object (members_view l.name-iterator)) (map (λ n. n.now) l.names)
    ↔ HasOnly (object (members_view l.members.entries)) (map (λ n. n.now) l.names)
