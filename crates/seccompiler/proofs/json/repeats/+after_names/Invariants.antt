use Rattle.std.proofs.Common.{◌≡◌, ◌-◌, ◌+◌}
use Rattle.serde_json.specs.View.{items_view}
use Rattle.seccompiler.specs.JsonRepeats.{names_in_items}
use Rattle.seccompiler.proofs.json.repeats.NestedNames.{names_from, names_below}
use Rattle.seccompiler.proofs.json.repeats.+after_names.Given as goal

abbrev pub invariant-loop-value : goal.invariant-loop-value
invariant-loop-value l = l.left - names_from l.values l.value-index ≡ l.fn.left - names_in_items (items_view l.fn.values)

abbrev pub invariant-loop-member : goal.invariant-loop-member
invariant-loop-member l =
    l.left - (names_below l.member-iterator + names_from l.values (l.value-index + 1)) ≡ l.fn.left - names_in_items (items_view l.fn.values)
