use Rattle.std.proofs.Common.{◌≡◌, Some, All}
use Rattle.std.specs.Vec.Iter.{into_iter_items}
use Rattle.serde_json.specs.Data.{Data}
use Rattle.seccomp_faults.specs.Faults.{step_to}
use Rattle.seccomp_faults.specs.Table.{IsInside}
use Rattle.seccomp_faults.specs.declared.table.Form.{Form}
use Rattle.seccomp_faults.proofs.Parts.{IsFault, TargetArch}
use Rattle.seccomp_faults.proofs.walk.add_inside.Given as goal

-- what is left are faults of the value inside, and what is found are faults of the outer one
abbrev pub invariant-loop-fault : goal.invariant-loop-fault
invariant-loop-fault l = (target : TargetArch) (outer inner : Form) (d there : Data) → IsInside outer l.step inner
    → step_to l.step d ≡ Some there → All (IsFault target inner there) l.fn.faults.items → All (IsFault target outer d) l.fn.found.items
    → All (IsFault target inner there) (into_iter_items l.fault-iterator) × All (IsFault target outer d) l.found.items
