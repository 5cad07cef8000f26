use Rattle.std.proofs.Common.{All, List, subst, sym}
use Rattle.std.specs.Prelude.{Any}
use Rattle.std.proofs.lemmas.List.Elements.{All-append, All-weaker}
use Rattle.seccomp_warnings.specs.ProfileWarnings.{IsOfPart}
use Rattle.seccomp_warnings.specs.Parts.{Part}
use Rattle.seccomp_warnings.specs.declared.profile.warnings.ProfileWarning.{ProfileWarning}
use Rattle.seccomp_warnings.proofs.profile.told.told_of.Goals as goal

pub loop-part-preserved : goal.loop-part-preserved
loop-part-preserved c =
    let l = c.loop-part in
    let q : Part = c.part-item.result in
    let own : List ProfileWarning = c.in_ok-own.own.items in
    let Of = λ (w : ProfileWarning). Any (λ r. IsOfPart c.args.allowed.now r w) c.as_slice-part-items.result.now in
    subst (All Of) (sym c.in_ok-append.ensures.items) (All-append Of l.told.items own l.invariant
    (All-weaker (IsOfPart c.args.allowed.now q) Of (λ w has. (l.part-index, q, c.loop-part-test.true, sym c.part-item.is, has)) own
    c.in_ok-own.ensures))

pub returns : goal.returns
returns c = record {
  parts = c.in_ok-parts.parts.items;
  are_parts = c.in_ok-parts.ensures;
  each = subst (λ (ps : List Part). All (λ w. Any (λ q. IsOfPart c.args.allowed.now q w) ps) c.loop-part.told.items)
      c.as_slice-part-items.ensures.value c.loop-part.invariant;
}
