use Rattle.std.proofs.Common.{◌≡◌, ℕ, ◌<◌, ◌≤◌, length, Some}
use Rattle.std.specs.Prelude.{slice_get}
use Rattle.seccompiler.specs.declared.bpf.sock_filter.{sock_filter}
use Rattle.seccompiler.specs.Machine.{IsInRange}
use Rattle.seccomp_compare.specs.Machine.{IsFine}
use Rattle.seccomp_compare.proofs.machine.first_unfit.Given as goal

-- each instruction so far is fine, and within its fields' ranges, and they are not too many
abbrev pub invariant-loop-place : goal.invariant-loop-place
invariant-loop-place l = record {
  few : l.place ≤ 4096;
  each : (place : ℕ) → place < l.place → (i : sock_filter) → slice_get l.prog place ≡ Some i → IsFine i place (length l.prog) × IsInRange i;
}
