use Rattle.std.proofs.Common.{◌≡◌, ◌<◌, ◌≤◌, Some, length, arith, subst, below_more}
use Rattle.std.specs.Prelude.{slice_get}
use Rattle.std.proofs.lemmas.Option.{slice_get-get_or, slice_get_within, get_or_from_slice_get}
use Rattle.seccomp_compare.specs.declared.values.Values.{Values}
use Rattle.seccomp_compare.proofs.sets.is_empty.Goals as goal

pub returns-then-values-clause-empty : goal.returns-then-values-clause-empty
returns-then-values-clause-empty c = λ _ r inside.
    let long : c.loop-values.values-index < length c.args.part.now = omega (arith, c.loop-values-test.true, c.told-part) in
    let has = inside.each c.loop-values.values-index _
    (slice_get-get_or c.args.part.now c.loop-values.values-index
    (record { known = 0; value = 0; mask = 0; least = 0; most = 0 }) long) in
    omega (arith, has.least, has.most, c.if-values.true)

pub loop-values-preserved : goal.loop-values-preserved
loop-values-preserved c =
    let part = c.args.part.now in
    let blank : Values = record { known = 0; value = 0; mask = 0; least = 0; most = 0 } in
    below_more (λ w. (s : Values) → slice_get part w ≡ Some s → s.least ≤ s.most) c.loop-values.values-index c.loop-values.invariant
    (λ s found. subst (λ (t : Values). t.least ≤ t.most)
    (get_or_from_slice_get part c.loop-values.values-index s blank found) c.if-values.false)

pub returns-clause-some : goal.returns-clause-some
returns-clause-some c = λ _. record {
  each = λ w s found.
      let within = slice_get_within c.args.part.now w s found in
      let before : w < c.loop-values.values-index = omega (arith, within, c.told-part, c.loop-values-test.false) in
      c.loop-values.invariant w before s found;
}
