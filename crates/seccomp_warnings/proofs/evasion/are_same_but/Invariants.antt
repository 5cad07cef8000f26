use Rattle.std.proofs.Common.{◌≡◌, ◌≢◌, ℕ, ◌*◌, ◌<◌}
use Rattle.seccompiler.specs.Machine.{word_at}
use Rattle.seccomp_warnings.proofs.evasion.are_same_but.Given as goal

-- the words so far
abbrev pub invariant-loop-at : goal.invariant-loop-at
invariant-loop-at l = (w : ℕ) → w < l.at → w ≢ l.word → word_at l.passed (4 * w) ≡ word_at l.denied (4 * w)
