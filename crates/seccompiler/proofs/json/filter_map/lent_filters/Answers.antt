use Rattle.std.proofs.Common.{◌≡◌, String, Global, rules, arith, refl, ◌∙◌, sym, ◌∷◌, ◌++◌}
use Rattle.serde_json.proofs.Views.{Entry, view-Object}
use Rattle.seccompiler.specs.JsonTypes.{JsonFilter}
use Rattle.seccompiler.proofs.ByName.{at_next, making_none, making_more, making_done}
use Rattle.seccompiler.proofs.json.filter_map.FilterMaps.{IsRead, are_filters, least_fault}
use Rattle.seccompiler.proofs.json.filter_map.lent_filters.Goals as goal

pub loop-key-init : goal.loop-key-init
loop-key-init c = making_none IsRead _ _ _ refl (search rules) (search (rules, arith))

pub loop-key-preserved : goal.loop-key-preserved
loop-key-preserved c =
    let e : Entry = (c.in-Some.key.now, c.in-Some.member.now) in
    let made : String Global × JsonFilter = (c.in-Ok-clone.name, c.in-Ok-Some.filter) in
    making_more IsRead c.loop-key.invariant e made _ _ c.in-Some.ensures.steps c.push_reserved.ensures.items
    c.push_reserved.ensures.len c.push_reserved.ensures.capacity c.in-Ok-clone.ensures.cases
    (rw c.in-Ok-Some.field-0-is at c.in-Ok-Some.ensures)

pub returns-in-Ok-None : goal.returns-in-Ok-None
returns-in-Ok-None c =
    let so_far = c.loop-key.invariant in
    let e : Entry = (c.in-Some.key.now, c.in-Some.member.now) in
    let rest = c.next.new.self in
    let given = c.into_iter-key-iterator.ensures.into_iter_gives ∙ c.iter-key-items.ensures.rest in
    let all : c.in-Object.members.entries ≡ so_far.done ++ e ∷ rest = sym given
    ∙ at_next IsRead so_far e rest c.in-Some.ensures.steps in
    rw (c.in-Object.is, view-Object c.in-Object.members, all, c.in-Ok-clone.ensures.cases) (least_fault so_far.done e rest
    c.loop-key.found.items (rw all at c.iter-key-items.ensures.ordered)
    so_far.made (rw c.in-Ok-None.field-0-is at c.in-Ok-None.ensures))

pub returns : goal.returns
returns c =
    let given = c.into_iter-key-iterator.ensures.into_iter_gives ∙ c.iter-key-items.ensures.rest in
    let all = making_done IsRead c.loop-key.invariant c.in-Object.members.entries given (rw c.in-None.ensures.steps.0 refl)
    c.iter-key-items.ensures.ordered in
    (all.1, rw (c.in-Object.is, view-Object c.in-Object.members) (are_filters _ _ all.0))
