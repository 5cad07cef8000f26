use Rattle.std.proofs.Common.{ℕ}
use Rattle.std.specs.Prelude.{All, IfSome, take}
use Rattle.seccomp_entries.specs.Drawers.{IsFoundBy, MeetsAt}
use Rattle.seccomp_entries.proofs.drawers.least_of.Given as goal

-- what was found is met, and no greater than what was found before and what is met so far
abbrev pub invariant-loop-at : goal.invariant-loop-at
invariant-loop-at l = record {
  met : IfSome l.found (MeetsAt l.entries l.call);
  old : (k : ℕ) → IsFoundBy l.fn.before k → IsFoundBy l.found k;
  own : All (λ k. MeetsAt l.entries l.call k → IsFoundBy l.found k) (take l.at-index l.places);
}
