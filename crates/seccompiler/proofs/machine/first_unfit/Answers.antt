use Rattle.std.proofs.Common.{◌-◌, length, refl, sym, ◌∙◌, arith}
use Rattle.std.proofs.lemmas.Bool.{false≢true, true≢false, eqb-true}
use Rattle.std.proofs.lemmas.Option.{slice_get-get_or}
use Rattle.seccompiler.specs.Machine.{IsFine, IsInRange}
use Rattle.seccompiler.specs.FirstUnfit.{none, not_fine, too_many, no_return}
use Rattle.seccompiler.proofs.machine.CheckedLemmas.{one_more, not_empty, checked_if}
use Rattle.seccompiler.proofs.machine.first_unfit.Goals as goal

pub returns-then-is_empty-clause-unfit : goal.returns-then-is_empty-clause-unfit
returns-then-is_empty-clause-unfit c =
    let no_instruction = eqb-true (length c.args.prog.now) 0 (sym c.is_empty.ensures ∙ c.if-is_empty.true) in
    record { few = omega arith; before = λ earlier i below found. absurd (omega arith); unfit = none no_instruction refl }

pub returns-then-place-eq-BPF_MAX_LEN-clause-unfit : goal.returns-then-place-eq-BPF_MAX_LEN-clause-unfit
returns-then-place-eq-BPF_MAX_LEN-clause-unfit c = record {
  few = c.loop-place.invariant.few;
  before = λ earlier i below found. (c.loop-place.invariant.each earlier below i found).0;
  unfit = too_many c.if-place-eq-BPF_MAX_LEN.true c.loop-place-test.true;
}

pub returns-then-place-eq-BPF_MAX_LEN-clause-checked : goal.returns-then-place-eq-BPF_MAX_LEN-clause-checked
returns-then-place-eq-BPF_MAX_LEN-clause-checked c =
    (λ e. absurd (true≢false e), λ checked. absurd (omega (arith, checked.few, c.loop-place-test.true, c.if-place-eq-BPF_MAX_LEN.true)))

pub returns-then-not-is_fine-clause-unfit : goal.returns-then-not-is_fine-clause-unfit
returns-then-not-is_fine-clause-unfit c = record {
  few = c.loop-place.invariant.few;
  before = λ earlier i below found. (c.loop-place.invariant.each earlier below i found).0;
  unfit = not_fine _ (slice_get-get_or c.args.prog.now c.loop-place.place _ c.loop-place-test.true)
      (λ is. absurd (false≢true (sym c.if-not-is_fine.true ∙ c.is_fine.ensures.fine.1 is)));
}

pub returns-then-not-is_fine-clause-checked : goal.returns-then-not-is_fine-clause-checked
returns-then-not-is_fine-clause-checked c = (
  λ e. absurd (true≢false e),
  λ checked. absurd (false≢true (sym c.if-not-is_fine.true ∙ c.is_fine.ensures.fine.1
      (checked.each c.loop-place.place _ (slice_get-get_or c.args.prog.now c.loop-place.place _ c.loop-place-test.true)))),
)

pub loop-place-preserved : goal.loop-place-preserved
loop-place-preserved c = record {
  few = omega (arith, c.loop-place.invariant.few, c.if-place-eq-BPF_MAX_LEN.false);
  each = one_more (λ place i. IsFine i place (length c.args.prog.now) × IsInRange i) c.args.prog.now c.loop-place.place _
      c.loop-place.invariant.each (c.if-not-is_fine.ensures.fine.0 refl, c.if-not-is_fine.ensures.range);
}

pub returns-then-prog-eq-RETURN-clause-checked : goal.returns-then-prog-eq-RETURN-clause-checked
returns-then-prog-eq-RETURN-clause-checked c =
    let whole = checked_if c.args.prog.now c.loop-place.place _ (not_empty _ c.is_empty.ensures c.if-is_empty.false)
    c.loop-place.invariant.few c.loop-place-test.false c.loop-place.invariant.each in
    (λ _. whole.0 c.if-prog-eq-RETURN.true, λ _. refl)

pub returns-else-prog-eq-RETURN-clause-unfit : goal.returns-else-prog-eq-RETURN-clause-unfit
returns-else-prog-eq-RETURN-clause-unfit c = let some = not_empty c.args.prog.now c.is_empty.ensures c.if-is_empty.false in
    record {
      few = omega (arith, c.loop-place.invariant.few, c.loop-place-test.false);
      before = λ earlier i below found. (c.loop-place.invariant.each earlier (omega (arith, below, c.loop-place-test.false)) i found).0;
      unfit = no_return _ (slice_get-get_or c.args.prog.now (length c.args.prog.now - 1) _ (omega (arith, some)))
          (omega (arith, some)) c.if-prog-eq-RETURN.false;
    }

pub returns-else-prog-eq-RETURN-clause-checked : goal.returns-else-prog-eq-RETURN-clause-checked
returns-else-prog-eq-RETURN-clause-checked c =
    let whole = checked_if c.args.prog.now c.loop-place.place _ (not_empty _ c.is_empty.ensures c.if-is_empty.false)
    c.loop-place.invariant.few c.loop-place-test.false c.loop-place.invariant.each in
    (λ e. absurd (true≢false e), λ checked. absurd (c.if-prog-eq-RETURN.false (whole.1 checked)))
