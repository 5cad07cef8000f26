use Rattle.seccomptool.proofs.History.{one_more}
use Rattle.seccomptool.specs.Ends.{on_none}
use Rattle.seccomptool.proofs.shell.carry_out_each.Goals as goal

pub loop-subject-init : goal.loop-subject-init
loop-subject-init g c = record { events = _; did = g.met.O.Outside.did_none _; is = on_none }

pub loop-subject-preserved : goal.loop-subject-preserved
loop-subject-preserved g c =
    let r = c.loop-subject.invariant in
    let own = c.carry_out-own.ensures in
    record {
      events = _;
      did = g.met.O.Outside.did_both _ _ _ _ _ r.did own.did;
      is = rw c.max-status.ensures (one_more _ _ _ _ _ _ _ _ _ c.loop-subject-test.true r.is own.is);
    }
