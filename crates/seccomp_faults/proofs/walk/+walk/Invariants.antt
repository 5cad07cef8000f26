use Rattle.std.proofs.Common.{All}
use Rattle.std.specs.Vec.Iter.{into_iter_items}
use Rattle.serde_json.specs.Data.{depth}
use Rattle.seccomp_faults.proofs.Parts.{IsFault, IsPart, view}
use Rattle.seccomp_faults.proofs.walk.+walk.Given as goal

abbrev pub decreases-walk : goal.decreases-walk
decreases-walk l = depth (view l.value.now)

-- what is left are parts of the value, and what is found are its faults
abbrev pub invariant-loop-part : goal.invariant-loop-part
invariant-loop-part l = All (IsPart l.target l.fn.form (view l.value)) (into_iter_items l.part-iterator)
    × All (IsFault l.target l.fn.form (view l.value)) l.found.items
