use Rattle.seccomptool.proofs.Common.{Contains-push, err_from_is_err_and, inl, inr, refl}
use Rattle.seccomptool.specs.Ends.{of_outside}
use Rattle.seccomptool.proofs.History.{all_read, apart_unwritten, made_of, outside_behind, read_unwritten, refusal_of, unmade}
use Rattle.seccomptool.proofs.History.{unwritten_both}
use Rattle.seccomptool.proofs.shell.carried_out.Goals as goal

pub returns-in_err-refuse_output-clause-kept : goal.returns-in_err-refuse_output-clause-kept
returns-in_err-refuse_output-clause-kept g c =
    let p = err_from_is_err_and c.from_residual.result c.from_residual.ensures.1 in
    let r = c.in_err-refuse_output.ensures.refused in
    rw (p.1, p.2) (record {
      events = r.events;
      did = r.did;
      is = (refusal_of _ _ _ _ _ _ _ _ c.output-output.ensures c.writes_bytes.ensures c.guarded.ensures r.is.0, r.is.1);
    })

pub returns-in_err-inputs-clause-kept : goal.returns-in_err-inputs-clause-kept
returns-in_err-inputs-clause-kept g c =
    let p = err_from_is_err_and c.from_residual-in_err-inputs.result c.from_residual-in_err-inputs.ensures.1 in
    let r = c.in_err-inputs.ensures.lost in
    rw (p.1, p.2) (record {
      events = _;
      did = g.met.O.Outside.did_both _ _ _ _ _ c.in_ok-refuse_output.ensures.apart r.did;
      is = (of_outside (outside_behind _ r.events _ r.is.0), search (unwritten_both, apart_unwritten, r.is.1));
    })

pub returns-in-Err-clause-kept : goal.returns-in-Err-clause-kept
returns-in-Err-clause-kept g c = record {
  events = _;
  did = g.met.O.Outside.did_both _ _ _ _ _ c.in_ok-refuse_output.ensures.apart c.in_ok-inputs.ensures.read;
  is = (
    unmade _ _ _ _ _ _ _ _
        (all_read _ _ _ _ _ _ c.output-output.ensures c.writes_bytes.ensures c.guarded.ensures c.in_ok-inputs.ensures.named)
        c.deref.ensures.value c.in-Err.ensures.fails c.failure_of.ensures,
    search read_unwritten,
  );
}

pub returns-in_err-notes-clause-kept : goal.returns-in_err-notes-clause-kept
returns-in_err-notes-clause-kept g c =
    let p = err_from_is_err_and c.from_residual-in_err-notes.result c.from_residual-in_err-notes.ensures.1 in
    rw (p.1, p.2) (record {
      events = _;
      did = g.met.O.Outside.did_both _ _ _ _ _ c.in_ok-refuse_output.ensures.apart c.in_ok-inputs.ensures.read;
      is = (of_outside (inl refl), search read_unwritten);
    })

pub returns-in-Ok-write-clause-carries : goal.returns-in-Ok-write-clause-carries
returns-in-Ok-write-clause-carries g c = record {
  events = _;
  did = g.met.O.Outside.did_both _ _ _ _ _
      (g.met.O.Outside.did_both _ _ _ _ _ c.in_ok-refuse_output.ensures.apart c.in_ok-inputs.ensures.read)
      (g.met.O.Outside.did_both _ _ _ _ _ c.in-Ok-write.ensures.written c.note.ensures);
  is = made_of _ _ _ _ _ _ _ _ _ c.output-output.ensures
      (all_read _ _ _ _ _ _ c.output-output.ensures c.writes_bytes.ensures c.guarded.ensures c.in_ok-inputs.ensures.named)
      c.deref.ensures.value c.in-Ok.ensures.answers c.deref-3.ensures.value;
}

pub returns-clause-kept : goal.returns-clause-kept
returns-clause-kept g c = record {
  events = _;
  did = g.met.O.Outside.did_both _ _ _ _ _
      (g.met.O.Outside.did_both _ _ _ _ _ c.in_ok-refuse_output.ensures.apart c.in_ok-inputs.ensures.read)
      c.in-Err-write.ensures.unwritten;
  is = (of_outside (inr (Contains-push _ _)), search (unwritten_both, read_unwritten));
}
