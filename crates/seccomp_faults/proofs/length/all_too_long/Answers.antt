use Rattle.std.proofs.Common.{◌≡◌, All, Some, String, Global, string_bytes, refl, sym, subst, inl}
use Rattle.std.proofs.lemmas.List.Elements.{All-nil}
use Rattle.serde_json.specs.Data.{Data}
use Rattle.serde_json.specs.Find.{get}
use Rattle.seccompiler.specs.JsonShape.{IsFilter, Under}
use Rattle.seccompiler.specs.JsonTypes.{JsonFilter}
use Rattle.seccomp_faults.specs.Faults.{IsBroken}
use Rattle.seccomp_faults.specs.declared.table.Form.TheVariants as form
use Rattle.seccomp_faults.proofs.Parts.{IsFault, pushed, split}
use Rattle.seccomp_faults.proofs.length.all_too_long.Goals as goal

abbrev IsNamed : Data → String Global × JsonFilter → Type 0
IsNamed d e = Under d (string_bytes e.0) (λ v. IsFilter v e.1)

pub loop-name-init : goal.loop-name-init
loop-name-init c = λ d back.
    let Q = IsFault c.args.target form.Policy d in (
      subst (All (IsNamed d)) (sym c.into_iter-name-iterator.ensures.into_iter_gives.0) back.entries.each,
      subst (All Q) (sym c.new-found.ensures.items) (All-nil Q),
    )

pub loop-name-preserved-in_ok-push : goal.loop-name-preserved-in_ok-push
loop-name-preserved-in_ok-push c = λ d back.
    let (left, found) = c.loop-name.invariant d back in
    let (own, rest) = split (IsNamed d) _ _ (c.in-Some.name.now, c.in-Some.filter.now) left c.in-Some.ensures.steps in
    let told = c.in_ok-problem.ensures own.0 own.2 in
    let broken : IsBroken c.args.target form.Filter own.0 c.in-Some-2.problem = rw c.in-Some-2.is at told in
    let has : get (string_bytes c.in_ok-clone.field-0) d ≡ Some own.0 =
    subst (λ name. get name d ≡ Some own.0) (sym c.in_ok-clone.ensures.cases) own.1 in (
      rest,
      pushed (IsFault c.args.target form.Policy d) c.loop-name.found.items c.push.new.self.items _ c.in_ok-push.ensures.items found
          (record {
            value = own.0;
            leads = rw c.in_ok-vec.ensures.items (form.Filter, own.0, inl refl, has, (refl, refl));
            broken = broken;
          }),
    )

pub loop-name-preserved : goal.loop-name-preserved
loop-name-preserved c = λ d back.
    let (left, found) = c.loop-name.invariant d back in
    ((split (IsNamed d) _ _ (c.in-Some.name.now, c.in-Some.filter.now) left c.in-Some.ensures.steps).1, found)

pub returns : goal.returns
returns c = λ d back. (c.loop-name.invariant d back).1
