use Rattle.seccomp_faults.proofs.Parts.{view}
use Rattle.seccomp_faults.proofs.length.lengths.Goals as goal

pub returns-in-Ok : goal.returns-in-Ok
returns-in-Ok c =
    let d = view c.args.value.now in
    c.all_too_long.ensures d (c.in-Ok.ensures.read_back d c.in-Ok.ensures.filters)
