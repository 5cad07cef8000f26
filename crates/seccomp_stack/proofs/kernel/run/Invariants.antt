use Rattle.std.proofs.Common.{◌≡◌, ℕ, take}
use Rattle.std.specs.Prelude.{min}
use Rattle.seccomp_stack.specs.Stack.{HaveSteps}
use Rattle.seccomp_stack.proofs.Asked.{IsSoFar}
use Rattle.seccomp_stack.proofs.kernel.run.Given as goal

-- what the first programs answer, and the steps that they take
abbrev pub invariant-loop-place : goal.invariant-loop-place
invariant-loop-place l = record {
  decided : IsSoFar l.call l.programs l.place l.decided l.word;
  steps : (n : ℕ) × HaveSteps l.call (take l.place l.programs) n × (l.steps ≡ min n 18446744073709551615);
}
