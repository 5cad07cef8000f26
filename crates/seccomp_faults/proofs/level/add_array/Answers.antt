use Rattle.std.proofs.Common.{sym, ◌∙◌}
use Rattle.serde_json.proofs.Views.{view-Array}
use Rattle.seccomp_faults.proofs.level.add_array.Goals as goal

pub returns-in-Array-Some : goal.returns-in-Array-Some
returns-in-Array-Some c = rw (c.in-Array-Some.is-0, view-Array c.in-Array-Some.items) (λ target each.
    c.add_items.ensures target c.args.form (sym c.item_of.ensures ∙ c.in-Array-Some.is-1) each)
