use Rattle.seccomptool.proofs.Common.{ap, refl, text_of}
use Rattle.seccomptool.proofs.History.{compared_unwritten, overwritten, unwritten_both}
use Rattle.seccomptool.proofs.shell.refuse_output.Goals as goal

pub returns-then-is_same-clause-refused : goal.returns-then-is_same-clause-refused
returns-then-is_same-clause-refused g c = record {
  events = _;
  did = g.met.O.Outside.did_both _ _ _ _ _ c.loop-file.invariant c.is_same.ensures;
  is = (
    overwritten _ _ _ _ _ _ _ _ _ (ap text_of c.in-Some.is) c.loop-file-test.true c.if-is_same.true refl,
    search (unwritten_both, compared_unwritten),
  );
}
