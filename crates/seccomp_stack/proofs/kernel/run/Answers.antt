use Rattle.std.proofs.Common.{◌+◌, List, inl, inr, arith, subst}
use Rattle.seccompiler.specs.declared.bpf.sock_filter.{sock_filter}
use Rattle.seccomp_compare.specs.Machine.{Ends}
use Rattle.seccomp_stack.specs.Stack.{Returns}
use Rattle.seccomp_stack.proofs.Asked.{next_decides, next_still, next_steps, all_asked}
use Rattle.seccomp_stack.proofs.kernel.run.Goals.{then-is_none, then-is_none-via-then-is_none}
use Rattle.seccomp_stack.proofs.kernel.run.Goals.{then-is_none-via-else-is_none+then-strictness}
use Rattle.seccomp_stack.proofs.kernel.run.Goals.{else-is_none+else-strictness}
use Rattle.seccomp_stack.proofs.kernel.run.Goals as goal

pub loop-place-preserved : goal.loop-place-preserved
loop-place-preserved c =
    let r = c.args.call.now in
    let programs = c.args.programs.now in
    let place = c.loop-place.place in
    let p = c.index-programs-place.result in
    let word = c.loop-place.word in
    let w = c.run-outcome.result.word in
    let within = c.loop-place-test.true in
    let is = c.index-programs-place.is in
    let decided = c.loop-place.decided in
    let so_far = c.loop-place.invariant.decided in
    let ends : Ends p.items r c.run-outcome.result.steps w =
    subst (λ (xs : List sock_filter). Ends xs r c.run-outcome.result.steps w) c.deref.ensures.value c.run-outcome.ensures.ends in
    let returned : Returns p.items r w = record { steps = c.run-outcome.result.steps; ends = ends } in
    record {
      decided = elim c.if-is_none.branch [
        | then-is_none v ↦ elim v.then-is_none.branch [
          | then-is_none-via-then-is_none u ↦
              rw (v.decided-is, v.word-is)
              (next_decides r programs place p within is word w returned decided so_far
              (inl u.if-is_none.ensures))
          | then-is_none-via-else-is_none+then-strictness u ↦
              rw (v.decided-is, v.word-is)
              (next_decides r programs place p within is word w returned decided so_far
              (inr (omega (arith, u.strictness.ensures, u.strictness-else-is_none.ensures, u.if-strictness.true))))
        ]
        | else-is_none+else-strictness v ↦
            rw (v.decided-is, v.word-is)
            (next_still r programs place p within is word w returned decided so_far
            v.if-is_none.ensures (omega (arith, v.strictness.ensures, v.strictness-else-is_none.ensures, v.if-strictness.false)))
      ];
      steps =
          let before = c.loop-place.invariant.steps in
          let so_many = before.2 in (
            before.0 + c.run-outcome.result.steps,
            next_steps r programs place p w c.run-outcome.result.steps before.0 within is ends before.1,
            omega (arith, c.saturating_add-steps.ensures, so_many),
          );
    }

pub returns-clause-word : goal.returns-clause-word
returns-clause-word c =
    (all_asked c.args.call.now c.args.programs.now c.loop-place.place c.loop-place.decided c.loop-place.word c.loop-place-test.false
    c.loop-place.invariant.decided).0
