use Rattle.seccomp_tree.proofs.Common.{arith, At, IsPushed, List, Step, ℕ, ◌<◌, ◌+◌}
use Rattle.seccomp_tree.proofs.Begun.{steps_more}
use Rattle.seccomp_tree.specs.Code.{AreOpenTo}
use Rattle.seccomp_tree.proofs.steps.open_to.Goals as goal

opened : {old new : List Step} {next end : ℕ} → next < end → IsPushed old next (At 0) new → AreOpenTo old next end new
opened {next = next} {end} lt pushed = record {
  are = steps_more (next + 1) end _ (omega arith) (omega (arith, lt)) pushed.are;
  below = pushed.below;
  gap = λ a le less. pushed.from a le;
  few = pushed.few;
}

pub returns-in_ok-push_step : goal.returns-in_ok-push_step
returns-in_ok-push_step c = opened c.if-next-end.true c.in_ok-push_step.ensures
