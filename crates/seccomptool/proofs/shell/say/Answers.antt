use Rattle.seccomptool.proofs.Common.{[], ◌∷◌, Contains-push, None, inr, refl}
use Rattle.seccomptool.specs.Ends.{said, unsaid}
use Rattle.seccomptool.specs.Outside.{failed}
use Rattle.seccomptool.proofs.shell.say.Goals as goal

pub returns-in_default : goal.returns-in_default
returns-in_default g c = record { events = _; did = c.in_default.ensures.written; is = said _ refl refl }

pub returns : goal.returns
returns g c = record {
  events = _;
  did = g.met.O.Outside.did_both _ _ _ _ _ c.in-Err.ensures.unwritten c.tell.ensures;
  is = unsaid (record { input = None; cause = c.in-Err.cause }) (failed None c.in-Err.cause ∷ []) (inr (Contains-push [] _)) refl refl;
}
