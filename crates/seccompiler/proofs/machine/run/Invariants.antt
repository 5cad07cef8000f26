use Rattle.std.proofs.Common.{◌-◌, ◌^◌, ◌<◌, ◌≤◌, length}
use Rattle.seccompiler.specs.Machine.{Goes}
use Rattle.seccompiler.proofs.machine.run.Given as goal

-- the steps so far lead here, and none of them leads back
abbrev pub invariant-loop-place : goal.invariant-loop-place
invariant-loop-place l = record {
  goes : Goes l.prog l.call 0 0 l.steps l.place l.accumulator;
  within : l.place < length l.prog;
  few : l.steps ≤ l.place;
  fits : l.accumulator < 2 ^ 32;
}

abbrev pub decreases-loop-place : goal.decreases-loop-place
decreases-loop-place l = length l.initial.prog - l.place
