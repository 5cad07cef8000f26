use Rattle.std.proofs.Common.{◌↔◌, length}
use Rattle.serde_json.specs.View.{items_view}
use Rattle.seccomp_profiles.specs.Listed.{HasItem, IsNamed}
use Rattle.seccomp_profiles.proofs.listed.has_name.Given as goal

abbrev pub invariant-loop-rest : goal.invariant-loop-rest
invariant-loop-rest l = HasItem (IsNamed l.name) (items_view l.rest) ↔ HasItem (IsNamed l.name) (items_view l.items)

abbrev pub decreases-loop-rest : goal.decreases-loop-rest
decreases-loop-rest l = length l.rest
