use Rattle.std.proofs.Common.{◌≡◌, All, Some}
use Rattle.serde_json.specs.View.{items_view}
use Rattle.seccomp_faults.specs.Table.{item_of}
use Rattle.seccomp_faults.specs.declared.table.Form.{Form}
use Rattle.seccomp_faults.proofs.Parts.{array, IsPart, TargetArch}
use Rattle.seccomp_faults.proofs.level.add_items.Given as goal

abbrev pub invariant-loop-place : goal.invariant-loop-place
invariant-loop-place l = (target : TargetArch) (outer : Form) → item_of outer ≡ Some l.form
    → All (IsPart target outer (array (items_view l.items.items))) l.fn.parts.items
    → All (IsPart target outer (array (items_view l.items.items))) l.parts.items
