use Rattle.std.proofs.Common.{refl}
use Rattle.serde_json.specs.View.{members_view}
use Rattle.serde_json.proofs.Views.{view-Object}
use Rattle.seccomp_faults.proofs.form.is_object.Goals as goal

pub returns-in-Object : goal.returns-in-Object
returns-in-Object c =
    (λ yes. (members_view c.in-Object.field-0.entries, rw c.in-Object.is (view-Object c.in-Object.field-0)), λ object. refl)
