use Rattle.std.proofs.Common.{◌≡◌, ◌+◌, ◌-◌, add-one, arith, slice_index_or, refl}
use Rattle.std.proofs.lemmas.Option.{slice_get-get_or}
use Rattle.seccompiler.specs.Machine.{Ends, stays, then_step}
use Rattle.seccompiler.proofs.machine.CheckedLemmas.{not_last}
use Rattle.seccompiler.proofs.Determinism.{ends_only}
use Rattle.seccompiler.proofs.machine.run.Goals as goal

pub loop-place-init : goal.loop-place-init
loop-place-init c = record { goes = stays; within = omega arith; few = omega arith; fits = omega arith }

pub step-requires-clause-fine : goal.step-requires-clause-fine
step-requires-clause-fine c =
    c.requires.each c.loop-place.place _ (slice_get-get_or c.args.prog.now c.loop-place.place _ c.loop-place.invariant.within)

pub step-requires-clause-next : goal.step-requires-clause-next
step-requires-clause-next c = not_last c.args.prog.now c.loop-place.place _ c.requires c.loop-place.invariant.within c.loop-place-test.true

pub loop-place-preserved : goal.loop-place-preserved
loop-place-preserved c = record {
  goes = rw add-one (then_step c.loop-place.invariant.goes record {
    instruction = slice_index_or c.args.prog.now c.loop-place.place _;
    here = slice_get-get_or c.args.prog.now c.loop-place.place _ c.loop-place.invariant.within;
    before = c.loop-place.invariant.fits;
    after = c.step.ensures.fits;
    does = c.step.ensures.does;
  });
  within = c.step.ensures.within;
  few = omega (arith, c.step.ensures.later);
  fits = c.step.ensures.fits;
}

pub returns : goal.returns
returns c = let steps : c.loop-place.steps + 1 - 1 ≡ c.loop-place.steps = omega arith in
    let ends : Ends c.args.prog.now c.args.call.now (c.loop-place.steps + 1) _ = record {
      place = c.loop-place.place;
      accumulator = c.loop-place.accumulator;
      instruction = slice_index_or c.args.prog.now c.loop-place.place _;
      some = omega arith;
      goes = rw steps c.loop-place.invariant.goes;
      here = slice_get-get_or c.args.prog.now c.loop-place.place _ c.loop-place.invariant.within;
      returns = c.loop-place-test.false;
      value = refl;
    } in
    record {
      ends = ends;
      steps = omega (arith, c.loop-place.invariant.few);
      only = λ n w other. ends_only c.args.prog.now c.args.call.now other ends;
    }
