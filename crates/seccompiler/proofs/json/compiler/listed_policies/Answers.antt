use Rattle.std.proofs.Common.{ap, length, String, Global, refl, sym, ◌∙◌, arith}
use Rattle.std.proofs.lemmas.Result.{err_from_is_err_and}
use Rattle.serde_json.specs.View.{view}
use Rattle.seccompiler.specs.JsonAnswers.{IsLeastRefused}
use Rattle.seccompiler.specs.JsonPolicyOf.{IsPolicyOf, IsFirstFault}
use Rattle.seccompiler.specs.JsonTypes.{JsonFilter}
use Rattle.seccompiler.specs.Policy.{Filter}
use Rattle.seccompiler.proofs.ByName.{at_next, making_none, making_more, making_done}
use Rattle.seccompiler.proofs.json.compiler.TextPolicies.{are_policies, least_refused, refused_told, shape_told}
use Rattle.seccompiler.proofs.json.policy.EntryFaults.{tells_more}
use Rattle.seccompiler.proofs.json.compiler.listed_policies.Goals as goal

pub returns-in_err-filters : goal.returns-in_err-filters
returns-in_err-filters c = let p = err_from_is_err_and c.from_residual.result c.from_residual.ensures.1 in
    rw (p.1, p.2) (shape_told c.args.arch (view c.args.value.now) c.in_err-filters.field-0.0 c.in_err-filters.ensures)

pub loop-name-init : goal.loop-name-init
loop-name-init c = making_none _ _ _ _ refl c.in-Ok.ensures.items (omega (
  arith,
  c.in-Ok.ensures.len,
  c.in-Ok.ensures.capacity,
  c.len.ensures,
  c.in_ok-filters.filters.ok.0,
  ap (λ es. length es) c.into_iter-name-iterator.ensures.into_iter_gives.0,
))

pub loop-name-preserved : goal.loop-name-preserved
loop-name-preserved c =
    let e : String Global × JsonFilter = (c.in-Some.name, c.in-Some.filter) in
    let entry : String Global × Filter = (c.in-Some.name, c.in-Ok-lent_seccomp_filter.policy) in
    making_more (IsPolicyOf c.args.arch) c.loop-name.invariant e entry _ _ c.in-Some.ensures.steps.0 c.push_reserved.ensures.items
    c.push_reserved.ensures.len c.push_reserved.ensures.capacity refl c.in-Ok-lent_seccomp_filter.ensures

pub returns-in-Err : goal.returns-in-Err
returns-in-Err c =
    let so_far = c.loop-name.invariant in
    let arch = c.args.arch in
    let d = view c.args.value.now in
    let e : String Global × JsonFilter = (c.in-Some.name, c.in-Some.filter) in
    let gives = c.into_iter-name-iterator.ensures.into_iter_gives.0 in
    let all = at_next (IsPolicyOf arch) so_far e _ c.in-Some.ensures.steps.0 in
    let refused = tells_more (IsFirstFault arch e.1) (λ fault. IsLeastRefused arch fault d)
    (least_refused arch d _ c.in_ok-filters.ensures.1 so_far.done e _ (sym gives ∙ all) c.in_ok-filters.ensures.0
    c.loop-name.policies.items so_far.made) c.in-Err.error c.in-Err.ensures in
    refused_told arch d c.in-Err.error refused

pub returns : goal.returns
returns c =
    let filters = c.in_ok-filters.filters.items in
    let all = making_done (IsPolicyOf c.args.arch) c.loop-name.invariant filters c.into_iter-name-iterator.ensures.into_iter_gives.0
    (grind (arith, c.in-None.ensures.steps.0)) c.in_ok-filters.ensures.0 in
    let are = are_policies c.args.arch _ filters c.in_ok-filters.ensures.1 c.loop-name.policies.items all.0 in
    (all.1, are)
