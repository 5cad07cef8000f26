use Rattle.seccomptool.proofs.Common.{Contains-push, err_from_is_err_and, inl, inr, refl}
use Rattle.seccomptool.proofs.History.{got_unwritten, unwritten_both}
use Rattle.seccomptool.proofs.shell.read_all.Goals as goal

pub returns-in_err-push-in-Ok-clause-lost : goal.returns-in_err-push-in-Ok-clause-lost
returns-in_err-push-in-Ok-clause-lost g c =
    let p = err_from_is_err_and c.from_residual.result c.from_residual.ensures.1 in
    rw (p.1, p.2) (record {
      events = _;
      did = g.met.O.Outside.did_both _ _ _ _ _ c.loop-file.invariant.read c.in-Ok.ensures.read;
      is = (inl refl, search (unwritten_both, got_unwritten));
    })

pub returns-in-Err-clause-lost : goal.returns-in-Err-clause-lost
returns-in-Err-clause-lost g c = record {
  events = _;
  did = g.met.O.Outside.did_both _ _ _ _ _ c.loop-file.invariant.read c.in-Err.ensures.unread;
  is = (inr (Contains-push _ _), search (unwritten_both, got_unwritten));
}
