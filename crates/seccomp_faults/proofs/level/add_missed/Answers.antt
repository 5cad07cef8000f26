use Rattle.seccomp_faults.proofs.Parts.{view}
use Rattle.seccomp_faults.proofs.level.add_missed.Goals as goal

pub returns-in_ok-broken-in-Some : goal.returns-in_ok-broken-in-Some
returns-in_ok-broken-in-Some c = λ each.
    let broken = c.in_ok-broken-in-Some.ensures c.args.form c.in-Some.ensures.missed in
    c.add.ensures c.args.target c.args.form (view c.args.value.now) broken each
