use Rattle.seccomptool.proofs.Common.{[], ◌∙◌, inl, refl, sym}
use Rattle.seccomptool.specs.Ends.{kept, of_outside}
use Rattle.seccomptool.proofs.History.{ends_whole}
use Rattle.seccomptool.proofs.shell.carry_out_with.Goals as goal

pub returns-in-Ok : goal.returns-in-Ok
returns-in-Ok g c =
    let r = c.carry_out.ensures in
    record {
      events = r.events;
      did = r.did;
      is = ends_whole _ _ _ _ _ (sym (rw c.in_default.is at c.subjects.ensures)) (c.deref.ensures.value ∙ c.in-Ok.ensures) r.is;
    }

pub returns-in-Err : goal.returns-in-Err
returns-in-Err g c = record {
  events = _;
  did = c.tell.ensures;
  is = ends_whole _ _ _ _ _ (sym (rw c.in_default.is at c.subjects.ensures)) refl
      (kept _ [] (of_outside (inl (rw c.from.ensures refl))) refl
      refl refl);
}
