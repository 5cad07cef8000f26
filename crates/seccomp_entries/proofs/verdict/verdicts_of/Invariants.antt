use Rattle.std.proofs.Common.{◌≡◌, ℕ, Some, length}
use Rattle.std.specs.Prelude.{IsSomeAnd, slice_get}
use Rattle.seccomp_entries.specs.Verdicts.{IsVerdict}
use Rattle.seccomp_entries.specs.declared.verdict.Verdict.{Verdict}
use Rattle.seccomp_entries.proofs.verdict.verdicts_of.Given as goal

-- the verdicts so far are true
abbrev pub invariant-loop-place : goal.invariant-loop-place
invariant-loop-place l = record {
  long : length l.verdicts.items ≡ l.place;
  each : (k : ℕ) (v : Verdict) → slice_get l.verdicts.items k ≡ Some v
      → IsSomeAnd (slice_get l.entries k) (λ own. IsVerdict l.arch l.entries k l.most own v);
}
