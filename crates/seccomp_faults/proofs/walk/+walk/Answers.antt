use Rattle.std.proofs.Common.{◌<◌, All, refl, sym, subst, rules}
use Rattle.std.proofs.lemmas.List.Elements.{All-nil}
use Rattle.serde_json.specs.Data.{depth}
use Rattle.seccomp_faults.proofs.Parts.{IsFault, IsPart, pushed, shallower, split, view}
use Rattle.seccomp_faults.proofs.walk.+walk.Goals as goal

pub loop-part-init : goal.loop-part-init
loop-part-init t c =
    let P = IsPart c.args.target c.args.form (view c.args.value.now) in
    let Q = IsFault c.args.target c.args.form (view c.args.value.now) in (
      subst (All P) (sym c.into_iter-part-iterator.ensures.into_iter_gives.0) c.in_ok-part-items.ensures,
      subst (All Q) (sym c.new-found.ensures.items) (All-nil Q),
    )

pub walk-requires : goal.walk-requires
walk-requires t c =
    let d = view c.args.value.now in
    let (first, rest) = split (IsPart c.args.target c.args.form d) _ _ _ c.loop-part.invariant.0 c.in-Some.ensures.steps.0 in
    let own = rw c.in-Inner.is at first in
    let smaller : depth (view c.in-Inner.inner.now) < depth d = shallower c.in-Inner.step d (view c.in-Inner.inner.now) own.1 in
    search rules

pub loop-part-preserved-in-Continue-branch-2 : goal.loop-part-preserved-in-Continue-branch-2
loop-part-preserved-in-Continue-branch-2 t c =
    let d = view c.args.value.now in
    let (first, rest) = split (IsPart c.args.target c.args.form d) _ _ _ c.loop-part.invariant.0 c.in-Some.ensures.steps.0 in (
      rest,
      pushed (IsFault c.args.target c.args.form d) c.loop-part.found.items c.push.new.self.items _
          c.in_ok-push-in-Broken.ensures.items c.loop-part.invariant.1
          (record { value = d; leads = rw c.new-path.ensures.items (refl, refl); broken = rw c.in-Broken.is at first }),
    )

pub loop-part-preserved : goal.loop-part-preserved
loop-part-preserved t c =
    let d = view c.args.value.now in
    let (first, rest) = split (IsPart c.args.target c.args.form d) _ _ _ c.loop-part.invariant.0 c.in-Some.ensures.steps.0 in
    let own = rw c.in-Inner.is at first in (
      rest,
      c.in_ok-add_inside-in-Inner.ensures c.args.target c.args.form c.in-Inner.inside d (view c.in-Inner.inner.now) own.0 own.1
          c.in_ok-faults-in-Inner.ensures c.loop-part.invariant.1,
    )

pub loop-part-preserved-in_ok-add_inside-in-Inner : goal.loop-part-preserved-in_ok-add_inside-in-Inner
loop-part-preserved-in_ok-add_inside-in-Inner t c =
    let d = view c.args.value.now in
    let (first, rest) = split (IsPart c.args.target c.args.form d) _ _ _ c.loop-part.invariant.0 c.in-Some.ensures.steps.0 in
    let own = rw c.in-Inner.is at first in (
      rest,
      c.in_ok-add_inside-in-Inner.ensures c.args.target c.args.form c.in-Inner.inside d (view c.in-Inner.inner.now) own.0 own.1
          c.in_ok-faults-in-Inner.ensures c.loop-part.invariant.1,
    )

pub returns : goal.returns
returns t c = c.loop-part.invariant.1
