use Rattle.std.proofs.Common.{◌≡◌, ℕ, ◌+◌, ◌-◌, suc, add-one, arith, slice_index_or, refl, subst}
use Rattle.std.proofs.lemmas.Option.{slice_get-get_or}
use Rattle.seccompiler.specs.Machine.{stays, then_step}
use Rattle.seccomp_compare.specs.Machine.{Ends, returns, goes_on}
use Rattle.seccomp_compare.proofs.machine.CheckedLemmas.{not_last}
use Rattle.seccomp_compare.proofs.OneEnd.{ends_only}
use Rattle.seccomp_compare.proofs.OfSeven.{does_of_seven}
use Rattle.seccomp_compare.proofs.machine.run.Goals as goal

-- one step counted, and the rest
one_counted : (steps n : ℕ) → steps + suc n ≡ steps + 1 + n
one_counted steps n = omega arith

pub loop-place-init : goal.loop-place-init
loop-place-init c = record {
  ends = λ n w e. let same : n ≡ 0 + n = omega arith in subst (λ m. Ends c.args.prog.now c.args.call.now m w) same e;
  goes = λ _. stays;
  within = omega arith;
  few = omega arith;
  fits = omega arith;
}

pub step-requires-clause-fine : goal.step-requires-clause-fine
step-requires-clause-fine c =
    c.requires.each c.loop-place.place _ (slice_get-get_or c.args.prog.now c.loop-place.place _ c.loop-place.invariant.within)

pub step-requires-clause-next : goal.step-requires-clause-next
step-requires-clause-next c =
    not_last c.args.prog.now c.loop-place.place _ c.requires c.loop-place.invariant.within c.loop-place-test.true

pub loop-place-preserved : goal.loop-place-preserved
loop-place-preserved c =
    let prog = c.args.prog.now in
    let place = c.loop-place.place in
    let here = slice_get-get_or prog place _ c.loop-place.invariant.within in
    record {
      ends = λ n w e.
          subst (λ m. Ends prog c.args.call.now m w) (one_counted c.loop-place.steps n)
          (c.loop-place.invariant.ends (suc n) w (goes_on _ here c.step.ensures.does e));
      goes = λ checked. rw add-one (then_step (c.loop-place.invariant.goes checked) record {
        instruction = slice_index_or prog place _;
        here = here;
        before = c.loop-place.invariant.fits;
        after = c.step.ensures.fits;
        does = does_of_seven _ _ _ _ _ _ _ (checked.each place _ here) c.step.ensures.does;
      });
      within = c.step.ensures.within;
      few = omega (arith, c.step.ensures.later);
      fits = c.step.ensures.fits;
    }

pub returns-clause-ends : goal.returns-clause-ends
returns-clause-ends c =
    c.loop-place.invariant.ends 1 _ (returns _
    (slice_get-get_or c.args.prog.now c.loop-place.place _ c.loop-place.invariant.within) c.loop-place-test.false)

pub returns-clause-only : goal.returns-clause-only
returns-clause-only c = λ n w other. ends_only c.args.prog.now c.args.call.now other (returns-clause-ends c) refl refl

pub returns-clause-of_seven : goal.returns-clause-of_seven
returns-clause-of_seven c = λ checked. record {
  place = c.loop-place.place;
  accumulator = c.loop-place.accumulator;
  instruction = slice_index_or c.args.prog.now c.loop-place.place _;
  some = omega arith;
  goes = let steps : c.loop-place.steps + 1 - 1 ≡ c.loop-place.steps = omega arith in rw steps (c.loop-place.invariant.goes checked);
  here = slice_get-get_or c.args.prog.now c.loop-place.place _ c.loop-place.invariant.within;
  returns = c.loop-place-test.false;
  value = refl;
}
