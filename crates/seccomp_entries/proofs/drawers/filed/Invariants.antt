use Rattle.seccomp_entries.specs.Drawers.{AreFiled}
use Rattle.seccomp_entries.proofs.drawers.filed.Given as goal

abbrev pub invariant-loop-place : goal.invariant-loop-place
invariant-loop-place l = AreFiled l.entries l.place l.files
