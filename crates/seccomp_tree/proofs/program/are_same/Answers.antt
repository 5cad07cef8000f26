use Rattle.std.specs.Prelude.{not}
use Rattle.std.proofs.lemmas.Bool.{true≢false}
use Rattle.seccompiler.specs.Equality.{rules_decide}
use Rattle.seccomp_tree.proofs.Common.{Bool, List, Ruling, arith, false, length, refl, sym, true, ap, ◌+◌, ◌<◌, ◌∙◌, ◌∷◌, ◌≡◌}
use Rattle.seccomp_tree.proofs.{Common.drop, Decided.drop_at}
use Rattle.seccomp_tree.proofs.program.are_same.Goals as goal

not_not : (b : Bool) → not b ≡ false → b ≡ true
not_not true h = refl
not_not false h = absurd (true≢false h)

pub loop-index-preserved : goal.loop-index-preserved
loop-index-preserved c = λ same.
    let i = c.loop-index.index in
    let x = c.index-rulings-index.result in
    let y = c.index-others-index.result in
    let lists : c.as_slice.result.now ≡ c.as_slice-else-ruling-other.result.now =
    (rules_decide c.as_slice.result.now c.as_slice-else-ruling-other.result.now).0 (not_not _ (sym c.ne.ensures ∙ c.if-ne.false)) in
    let conditions : x.conditions ≡ y.conditions =
    sym (ap (λ (d : Ruling). d.conditions) c.ruling.view_is) ∙ sym c.as_slice.ensures.value ∙ lists
    ∙ c.as_slice-else-ruling-other.ensures.value ∙ ap (λ (d : Ruling). d.conditions) c.other.view_is in
    let value : x.value ≡ y.value = omega (
      arith,
      c.if-ruling-other.false,
      ap (λ (d : Ruling). d.value) c.ruling.view_is,
      ap (λ (d : Ruling). d.value) c.other.view_is,
    ) in
    let is : x ≡ y = λ j. record { conditions = conditions j; value = value j } in
    let within : i < length c.args.rulings.now = omega (arith, c.loop-index-test.true) in
    let within_others : i < length c.args.others.now = omega (arith, c.loop-index-test.true, c.if-rulings-others.false) in
    c.loop-index.invariant (drop_at c.args.rulings.now i x within c.index-rulings-index.is
    ∙ ap (λ (d : Ruling). d ∷ drop (i + 1) c.args.rulings.now) is ∙ ap (λ (l : List Ruling). y ∷ l) same
    ∙ sym (drop_at c.args.others.now i y within_others c.index-others-index.is))
