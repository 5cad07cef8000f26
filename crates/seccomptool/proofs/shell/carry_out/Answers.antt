use Rattle.seccomptool.proofs.Common.{refl}
use Rattle.seccomptool.specs.Ends.{carried_out, kept}
use Rattle.seccomptool.proofs.shell.carry_out.Goals as goal

pub returns-in-Ok : goal.returns-in-Ok
returns-in-Ok g c =
    let r = c.in-Ok.ensures.carries in
    record { events = r.events; did = r.did; is = carried_out c.in-Ok.made r.is c.status_of.ensures }

pub returns-in-Err : goal.returns-in-Err
returns-in-Err g c =
    let r = c.in-Err.ensures.kept in
    record {
      events = _;
      did = g.met.O.Outside.did_both _ _ _ _ _ r.did c.tell.ensures;
      is = kept c.in-Err.failure r.events r.is.0 r.is.1 refl refl;
    }
