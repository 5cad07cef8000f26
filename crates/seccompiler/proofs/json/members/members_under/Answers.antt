use Rattle.std.proofs.Common.{ℕ, ◌<◌, ◌≤◌, refl, ◌∙◌, arith}
use Rattle.serde_json.proofs.Views.{view-Object}
use Rattle.seccompiler.proofs.json.members.ObjectNames.{one_more, another, at_end, found_at, five}
use Rattle.seccompiler.proofs.json.members.members_under.Goals as goal

pub returns-then-place-count : goal.returns-then-place-count
returns-then-place-count c =
    let other = another (c.in-Some.name.now, c.in-Some.member.now) _ _ _ _ _ _ _ c.requires.count c.as_str.ensures.value
    c.place_among-place.ensures (rw c.in-Some.ensures.steps at c.loop-name.invariant) c.if-place-count.true in
    record { names = λ given. cc; found = tt; none = other }

pub loop-name-init : goal.loop-name-init
loop-name-init c = let given = c.into_iter-name-iterator.ensures.into_iter_gives ∙ c.iter-name-items.ensures.rest in
    rw (given, c.in-Object.is, view-Object c.in-Object.members)
    (record { only = (λ h. h, λ h. h); sought = (refl, (refl, (refl, (refl, (refl, tt))))) })

pub loop-name-preserved : goal.loop-name-preserved
loop-name-preserved c = rw (c.or.ensures, found_at c.loop-name.found c.place_among-place.result c.index-found-place.result c.in-Some.member)
    (one_more (c.in-Some.name.now, c.in-Some.member.now) _ _ _ _ _ _ _ c.requires.count c.as_str.ensures.value c.place_among-place.ensures
    (rw c.in-Some.ensures.steps at c.loop-name.invariant) _ refl c.requires.apart c.if-place-count.false)

pub returns : goal.returns
returns c =
    let all = five c.loop-name.found c.index-found-0.result c.index-found-1.result c.index-found-2.result c.index-found-3.result
    c.index-found-4.result c.index-found-0.array_long in
    let end = at_end _ _ _ _ _ c.in-None.ensures.steps.0 (rw all at c.loop-name.invariant) in
    record { names = λ given. end.0; found = end.1; none = tt }

below : (place count most : ℕ) → place < count → count ≤ most → place < most
below place count most small few = omega arith

pub bounds-found-place : goal.bounds-found-place
bounds-found-place c = below _ _ _ c.if-place-count.false c.requires.count

pub bounds-found-place-in-loop-name : goal.bounds-found-place-in-loop-name
bounds-found-place-in-loop-name c = below _ _ _ c.if-place-count.false c.requires.count

pub listed : goal.listed
listed c = rw c.if-place-count.array_long (below _ _ _ c.if-place-count.false c.requires.count)
