use Rattle.seccomp_tree.proofs.{Common.arith, Common.◌^◌, Common.◌≡◌, Decided.below_all, Decided.calls_on, Runs.grows_not, Runs.grows_on}
use Rattle.seccomp_tree.proofs.decisions.Decisions.call_steps.Goals as goal

pub loop-next-preserved : goal.loop-next-preserved
loop-next-preserved c = (
  c.next_start-next.ensures.within,
  c.in_ok-target.ensures.seen,
  calls_on c.loop-next.invariant.2 c.in_ok-target.ensures.grows c.in_ok-target.ensures.answer c.in_ok-push_step.ensures
      c.next_start-next.ensures.above c.next_start-next.ensures.default c.next_start-next.ensures.rulings,
)

pub returns-clause-steps : goal.returns-clause-steps
returns-clause-steps c =
    let end : c.loop-next.next ≡ 2 ^ 32 = omega arith in
    let h = rw end at c.loop-next.invariant.2 in
    let grows = grows_on _ h.grows (grows_not _ 0) (omega (arith, below_all c.args.self.now.calls (2 ^ 32))) in
    record { grows = grows; are = h.are; each = h.each }
