use Rattle.std.proofs.Common.{◌≡◌, ◌+◌, ◌==◌, ◌≤◌, count_by, length}
use Rattle.seccompiler.proofs.json.repeats.all_colons.Given as goal

abbrev pub invariant-loop-rest : goal.invariant-loop-rest
invariant-loop-rest l = (l.found + length l.rest ≤ length l.text)
    × (l.found + count_by (λ b. b == 58) l.rest ≡ count_by (λ b. b == 58) l.text)

abbrev pub decreases-loop-rest : goal.decreases-loop-rest
decreases-loop-rest l = length l.rest
