use Rattle.std.proofs.Common.{◌≡◌, ◌-◌, ◌+◌, ◌<◌, ◌≤◌, length, refl, sym, ◌∙◌, arith, eqb-true, eq-eqb}
use Rattle.std.proofs.lemmas.Bool.Decides.{nat_tests}
use Rattle.std.proofs.lemmas.Bool.{false≢true, true≢false}
use Rattle.std.proofs.lemmas.Option.{slice_get-get_or}
use Rattle.seccomp_compare.specs.Machine.{not_fine, no_return}
use Rattle.seccomp_compare.proofs.machine.CheckedLemmas.{checked_if, one_more}
use Rattle.seccomp_compare.proofs.machine.first_unfit.Goals as goal

pub returns-then-not-is_fine-clause-unfit : goal.returns-then-not-is_fine-clause-unfit
returns-then-not-is_fine-clause-unfit c = record {
  few = c.loop-place.invariant.few;
  before = λ earlier i below found. (c.loop-place.invariant.each earlier below i found).0;
  unfit = not_fine _ (slice_get-get_or c.args.prog.now c.loop-place.place _ c.loop-place-test.true)
      (λ is. absurd (false≢true (sym c.if-not-is_fine.true ∙ c.is_fine.ensures.fine.1 is)));
}

pub returns-then-not-is_fine-clause-checked : goal.returns-then-not-is_fine-clause-checked
returns-then-not-is_fine-clause-checked c = (
  λ e. absurd (true≢false e),
  λ checked. absurd (false≢true (sym c.if-not-is_fine.true ∙ c.is_fine.ensures.fine.1
      (checked.each c.loop-place.place _ (slice_get-get_or c.args.prog.now c.loop-place.place _ c.loop-place-test.true)))),
)

pub loop-place-preserved : goal.loop-place-preserved
loop-place-preserved c = record {
  few = omega (arith, c.loop-place.invariant.few, c.if-place-eq-BPF_MAX_LEN.false);
  each = one_more c.args.prog.now c.loop-place.place (length c.args.prog.now) _ c.loop-place.invariant.each
      (c.if-not-is_fine.ensures.fine.0 refl, c.if-not-is_fine.ensures.range);
}

pub returns-then-prog-eq-RETURN-clause-checked : goal.returns-then-prog-eq-RETURN-clause-checked
returns-then-prog-eq-RETURN-clause-checked c =
    let some : 0 < length c.args.prog.now = grind (arith, nat_tests) in
    let few : length c.args.prog.now ≤ 4096 = omega (arith, c.loop-place.invariant.few, c.loop-place-test.false) in
    let whole = checked_if c.args.prog.now c.loop-place.place _ some few c.loop-place-test.false c.loop-place.invariant.each in (
      λ _. whole.0 (eq-eqb _ 6 c.if-prog-eq-RETURN.true),
      λ _. refl,
    )

pub returns-else-prog-eq-RETURN-clause-unfit : goal.returns-else-prog-eq-RETURN-clause-unfit
returns-else-prog-eq-RETURN-clause-unfit c =
    let some : 0 < length c.args.prog.now = grind (arith, nat_tests) in
    let last : length c.args.prog.now - 1 < length c.args.prog.now = omega arith in
    let end : length c.args.prog.now - 1 + 1 ≡ length c.args.prog.now = omega arith in
    record {
      few = omega (arith, c.loop-place.invariant.few, c.loop-place-test.false);
      before = λ earlier i below found. (c.loop-place.invariant.each earlier (omega (arith, below, c.loop-place-test.false)) i found).0;
      unfit = no_return _ (slice_get-get_or c.args.prog.now (length c.args.prog.now - 1) _ last) end c.if-prog-eq-RETURN.false;
    }

pub returns-else-prog-eq-RETURN-clause-checked : goal.returns-else-prog-eq-RETURN-clause-checked
returns-else-prog-eq-RETURN-clause-checked c =
    let some : 0 < length c.args.prog.now = grind (arith, nat_tests) in
    let few : length c.args.prog.now ≤ 4096 = omega (arith, c.loop-place.invariant.few, c.loop-place-test.false) in
    let whole = checked_if c.args.prog.now c.loop-place.place _ some few c.loop-place-test.false c.loop-place.invariant.each in (
      λ e. absurd (true≢false e),
      λ checked. absurd (c.if-prog-eq-RETURN.false (eqb-true _ 6 (whole.1 checked))),
    )
