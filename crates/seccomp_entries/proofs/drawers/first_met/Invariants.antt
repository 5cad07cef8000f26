use Rattle.std.proofs.Common.{◌+◌, ◌*◌, ◌<◌, ℕ}
use Rattle.std.specs.Prelude.{IfSome}
use Rattle.seccompiler.specs.Machine.{word_at}
use Rattle.seccomp_entries.specs.Drawers.{IsFoundBy, IsIn, MeetsAt}
use Rattle.seccomp_entries.proofs.drawers.first_met.Given as goal

-- what was found is met, and no greater than what is met in the drawer of an argument below this one
abbrev pub invariant-loop-argument : goal.invariant-loop-argument
invariant-loop-argument l = record {
  met : IfSome l.found (MeetsAt l.entries l.call);
  own : (i k : ℕ) → i < l.argument → IsIn l.files (i, word_at l.call (16 + 8 * i)) k → MeetsAt l.entries l.call k → IsFoundBy l.found k;
}
