use Rattle.std.proofs.Common.{◌≡◌, ℕ, ◌≤◌, length}
use Rattle.seccompiler.specs.ColonCount.{from_inside}
use Rattle.seccompiler.proofs.json.repeats.behind_string.Given as goal

abbrev pub invariant-loop-byte : goal.invariant-loop-byte
invariant-loop-byte l = (length l.rest ≤ length l.text) × ((n : ℕ) → from_inside n l.text ≡ from_inside n l.rest)

abbrev pub decreases-loop-byte : goal.decreases-loop-byte
decreases-loop-byte l = length l.rest
