use Rattle.std.proofs.Common.{◌≡◌, ◌∙◌, add-zero, ap, sym, arith}
use Rattle.serde_json.specs.View.{view, items_view}
use Rattle.serde_json.specs.declared.value.Value.{the_lemmas}
use Rattle.seccompiler.specs.JsonRepeats.{names_in, names_in_items}
use Rattle.serde_json.proofs.Views.{view-Object, view-Array}
use Rattle.seccompiler.proofs.json.repeats.NestedNames.{names_next, own_and_inside, member_counted, none_less, no_names}
use Rattle.seccompiler.proofs.json.repeats.+after_names.Goals.{in-Array, in-Object+in-None, in_default}
use Rattle.seccompiler.proofs.json.repeats.+after_names.Goals as goal

pub loop-member-init : goal.loop-member-init
loop-member-init t c =
    let members = c.in-Object.members in
    let next = names_next c.args.values.now c.loop-value.value-index _ c.loop-value-test.true c.value-item.is in
    let own = rw (c.in-Object.is, view-Object members, own_and_inside members.entries) at next in
    let so_far = c.loop-value.invariant in
    rw (
      c.into_iter-member-iterator.ensures.into_iter_gives ∙ c.iter-member-items.ensures.rest,
      c.saturating_sub-left.ensures,
      c.len.ensures.len,
    ) (omega (arith, own, so_far))

pub loop-value-preserved : goal.loop-value-preserved
loop-value-preserved t c =
    let next = names_next c.args.values.now c.loop-value.value-index _ c.loop-value-test.true c.value-item.is in
    let so_far = c.loop-value.invariant in
    elim c.match-value.branch [
      | in-Array w ↦ let own = rw (w.in-Array.is, view-Array _) at next in grind (arith, own, so_far)
      | in-Object+in-None w ↦ let done = w.loop-member.invariant in grind (arith, done)
      | in_default w ↦ grind (arith, the_lemmas, next, so_far, w.in_default.not-Array, w.in_default.not-Object)
    ]

pub loop-member-preserved-in-Array-member : goal.loop-member-preserved-in-Array-member
loop-member-preserved-in-Array-member t c =
    let own = ap (λ value. names_in (view value)) c.in-Array-member.is ∙ ap names_in (view-Array c.in-Array-member.items)
    ∙ ap (λ items. names_in_items (items_view items)) (sym c.as_slice-in-Array-member.ensures.value) in
    member_counted (c.in-Some.field-0-0.now, c.in-Some.member.now) _ c.next.new.self _ _ _ _ _ c.in-Some.ensures.steps own
    c.after_names-left-in-Array-member.ensures c.loop-member.invariant

pub loop-member-preserved-in-Object-member : goal.loop-member-preserved-in-Object-member
loop-member-preserved-in-Object-member t c =
    let one = ap (λ items. names_in_items (items_view items)) c.from_ref.ensures.value in
    let own : names_in (view c.in-Some.member.now) ≡ names_in_items (items_view c.from_ref.result.now) = sym (one ∙ add-zero _) in
    member_counted (c.in-Some.field-0-0.now, c.in-Some.member.now) _ c.next.new.self _ _ _ _ _ c.in-Some.ensures.steps own
    c.after_names-left-in-Object-member.ensures c.loop-member.invariant

pub loop-member-preserved : goal.loop-member-preserved
loop-member-preserved t c =
    let none = no_names c.in-Some.member.now c.in_default-member.not-Array c.in_default-member.not-Object in
    member_counted (c.in-Some.field-0-0.now, c.in-Some.member.now) _ c.next.new.self _ c.loop-member.left 0 _ _
    c.in-Some.ensures.steps none (none_less c.loop-member.left) c.loop-member.invariant
