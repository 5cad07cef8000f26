use Rattle.serde_json.proofs.Views.{view-Array}
use Rattle.seccomp_faults.proofs.Values.{emptied}
use Rattle.seccomp_faults.proofs.form.is_empty.Goals as goal

pub returns-in-Array : goal.returns-in-Array
returns-in-Array c = rw (c.in-Array.is, view-Array c.in-Array.items)
    (emptied c.in-Array.items.items c.in-Array.items.len c.is_empty.result c.in-Array.items.ok.0 c.is_empty.ensures)
