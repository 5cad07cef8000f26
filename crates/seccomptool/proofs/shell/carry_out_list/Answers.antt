use Rattle.seccomptool.proofs.Common.{arith, subst}
use Rattle.seccomptool.specs.Ends.{IsSaid, listed, unlisted}
use Rattle.seccomptool.proofs.shell.carry_out_list.Goals as goal

pub returns-then-begun-gt0 : goal.returns-then-begun-gt0
returns-then-begun-gt0 g c =
    let head = c.say-begun.ensures in
    record { events = head.events; did = head.did; is = unlisted head.is c.if-begun-gt0.true }

pub returns : goal.returns
returns g c =
    let head = c.say-begun.ensures in
    let each = c.carry_out_each-status.ensures in
    let end = c.say-ended.ensures in
    record {
      events = _;
      did = g.met.O.Outside.did_both _ _ _ _ _ (g.met.O.Outside.did_both _ _ _ _ _ head.did each.did) end.did;
      is = rw c.max.ensures
          (listed (subst (IsSaid head.events) (omega (arith, c.if-begun-gt0.false)) head.is) each.is end.is);
    }
