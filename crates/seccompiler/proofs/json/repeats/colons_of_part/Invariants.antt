use Rattle.std.proofs.Common.{◌≡◌, ◌==◌, ◌≤◌, count_by, take}
use Rattle.seccompiler.proofs.json.repeats.colons_of_part.Given as goal

abbrev pub invariant-loop-byte : goal.invariant-loop-byte
invariant-loop-byte l = (l.found ≤ l.byte-index) × (l.found ≡ count_by (λ b. b == 58) (take l.byte-index l.part))
