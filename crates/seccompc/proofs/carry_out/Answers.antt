use Rattle.std.specs.Process.{exit_status}
use Rattle.seccompc.proofs.Statuses.{performed, performed_faultless}
use Rattle.seccompc.proofs.carry_out.Goals as goal

pub returns-clause-performed : goal.returns-clause-performed
returns-clause-performed g c =
    let of = c.perform_on-2.ensures in
    rw c.in-Some.is (λ zero.
    performed c.in-Some.command c.open.result _ (g.I.Read.remaining c.args.input) c.perform_on-2.result
    (g.W.Write.contents c.args.out.now) (g.W.Write.contents c.perform_on-2.new.out) (exit_status c.answered-2.result) of.opened of.unopened
    c.answered-2.ensures.failed zero)

pub returns-clause-faultless : goal.returns-clause-faultless
returns-clause-faultless g c =
    let of = c.perform_on-2.ensures in
    let input = g.I.Read.remaining c.args.input in
    let old = g.W.Write.contents c.args.out.now in
    let new = g.W.Write.contents c.perform_on-2.new.out in
    rw c.in-Some.is (λ zero. performed_faultless c.in-Some.command input old new (
    performed c.in-Some.command c.open.result _ input c.perform_on-2.result old new (exit_status c.answered-2.result) of.opened of.unopened
    c.answered-2.ensures.failed zero))
