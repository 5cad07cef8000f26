use Rattle.std.proofs.Common.{ℕ, ◌+◌, ◌-◌, ◌^◌, ◌<◌, ◌≤◌, length}
use Rattle.seccompiler.specs.Machine as of_seven
use Rattle.seccomp_compare.specs.Machine.{EndsFrom, Ends}
use Rattle.seccomp_compare.proofs.machine.run.Given as goal

-- as the run ends from here on, it ends; the steps so far are those of the machine of the seven; and none leads back
abbrev pub invariant-loop-place : goal.invariant-loop-place
invariant-loop-place l = record {
  ends : (n w : ℕ) → EndsFrom l.prog l.call l.place l.accumulator n w → Ends l.prog l.call (l.steps + n) w;
  goes : of_seven.IsChecked l.prog → of_seven.Goes l.prog l.call 0 0 l.steps l.place l.accumulator;
  within : l.place < length l.prog;
  few : l.steps ≤ l.place;
  fits : l.accumulator < 2 ^ 32;
}

abbrev pub decreases-loop-place : goal.decreases-loop-place
decreases-loop-place l = length l.initial.prog - l.place
