use Rattle.std.proofs.Common.{◌≡◌, Some, subst}
use Rattle.serde_json.specs.Find.{get_item}
use Rattle.serde_json.specs.View.{items_view}
use Rattle.seccomp_faults.proofs.Values.{item_there}
use Rattle.seccomp_faults.proofs.Parts.{array, view}
use Rattle.seccomp_faults.proofs.level.add_items.Goals as goal

pub loop-place-preserved : goal.loop-place-preserved
loop-place-preserved c = λ target outer own old.
    let place = c.loop-place.place in
    let item = c.item-item.result in
    let here = item_there c.deref-item-items.result.now place item c.loop-place-test.true c.item-item.is in
    let there = subst (λ vs. get_item place (items_view vs) ≡ Some (view item)) c.deref-item-items.ensures.value here in
    c.in_ok-add.ensures target outer (array (items_view c.args.items.now.items)) (own, there) (c.loop-place.invariant target outer own old)
