use Rattle.std.proofs.Common.{◌≡◌, ◌+◌, length}
use Rattle.serde_json.specs.View.{items_view}
use Rattle.seccomp_profiles.specs.Listed.{first_unknown}
use Rattle.seccomp_profiles.proofs.listed.first_unknown.Given as goal

-- the answer is that of the rest, and its place is behind the items so far
abbrev pub invariant-loop-rest : goal.invariant-loop-rest
invariant-loop-rest l =
    (first_unknown l.place (items_view l.rest) ≡ first_unknown 0 (items_view l.items)) × (l.place + length l.rest ≡ length l.items)

abbrev pub decreases-loop-rest : goal.decreases-loop-rest
decreases-loop-rest l = length l.rest
