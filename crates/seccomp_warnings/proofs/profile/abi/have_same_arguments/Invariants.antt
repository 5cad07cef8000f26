use Rattle.std.proofs.Common.{◌≡◌, ◌+◌, ◌*◌, ◌<◌, ℕ}
use Rattle.seccompiler.specs.Machine.{word_at}
use Rattle.seccomp_warnings.proofs.profile.abi.have_same_arguments.Given as goal

-- the arguments so far
abbrev pub invariant-loop-index : goal.invariant-loop-index
invariant-loop-index l = (i : ℕ) → i < l.index → (word_at l.passed (16 + 8 * i) ≡ word_at l.denied (16 + 8 * i))
    × (word_at l.passed (16 + 8 * i + 4) ≡ 0) × (word_at l.denied (16 + 8 * i + 4) ≡ 0)
