use Rattle.std.proofs.Common.{◌≡◌}
use Rattle.std.specs.Vec.Iter.{into_iter_items}
use Rattle.seccompiler.specs.JsonTypes.{JsonFilter}
use Rattle.seccompiler.proofs.ByName.{IsMaking}
use Rattle.seccompiler.proofs.json.filter_map.read_filters.Given as goal

abbrev pub invariant-loop-name : goal.invariant-loop-name
invariant-loop-name l =
    IsMaking (λ (f g : JsonFilter). g ≡ f) (into_iter_items l.initial.name-iterator) (into_iter_items l.name-iterator) l.found
