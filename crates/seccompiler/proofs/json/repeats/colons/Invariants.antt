use Rattle.std.proofs.Common.{◌≡◌, ◌+◌, ◌≤◌, length}
use Rattle.seccompiler.specs.ColonCount.{from_outside}
use Rattle.seccompiler.proofs.json.repeats.colons.Given as goal

abbrev pub invariant-loop-byte : goal.invariant-loop-byte
invariant-loop-byte l = (l.found + length l.rest ≤ length l.text) × (from_outside l.found l.rest ≡ from_outside 0 l.text)

abbrev pub decreases-loop-byte : goal.decreases-loop-byte
decreases-loop-byte l = length l.rest
