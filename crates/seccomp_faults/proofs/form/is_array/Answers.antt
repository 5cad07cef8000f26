use Rattle.std.proofs.Common.{refl}
use Rattle.serde_json.specs.View.{items_view}
use Rattle.serde_json.proofs.Views.{view-Array}
use Rattle.seccomp_faults.proofs.form.is_array.Goals as goal

pub returns-in-Array : goal.returns-in-Array
returns-in-Array c = (λ yes. (items_view c.in-Array.field-0.items, rw c.in-Array.is (view-Array c.in-Array.field-0)), λ array. refl)
