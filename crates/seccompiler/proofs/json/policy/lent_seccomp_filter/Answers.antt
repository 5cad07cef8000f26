use Rattle.std.proofs.Common.{All, List, ap, ◌∙◌, refl, subst}
use Rattle.std.proofs.lemmas.Result.{err_from_is_err_and}
use Rattle.seccompiler.specs.JsonTypes.{JsonFilter, JsonRule}
use Rattle.seccompiler.specs.JsonPolicyOf.{IsFineEntry, IsFirstOf, IsFirstFault, in_entries, in_actions}
use Rattle.seccompiler.proofs.json.policy.EntryFaults.{tells_more, same_actions}
use Rattle.seccompiler.proofs.json.policy.Policies.{policy_made}
use Rattle.seccompiler.proofs.json.policy.lent_seccomp_filter.Goals as goal

pub returns-in_err-gathered : goal.returns-in_err-gathered
returns-in_err-gathered c = let p = err_from_is_err_and c.from_residual.result c.from_residual.ensures.1 in
    let these = c.as_slice.ensures.value ∙ ap (λ (f : JsonFilter). f.rules) c.filter.view_is in
    rw (p.1, p.2) (tells_more (IsFirstOf c.args.arch c.args.filter.now.rules) (IsFirstFault c.args.arch c.args.filter.now)
    (λ fault first. in_entries first) c.in_err-gathered.field-0.0 (rw these at c.in_err-gathered.ensures))

pub returns-in_err-new : goal.returns-in_err-new
returns-in_err-new c = let p = err_from_is_err_and c.from_residual-in_err-new.result c.from_residual-in_err-new.ensures.1 in
    let fine = subst (λ (es : List JsonRule). All (IsFineEntry c.args.arch) es) c.as_slice.ensures.value c.in_ok-gathered.ensures.0 in
    rw (p.1, p.2, c.in_err-new.ensures.refused, ← c.filter.view_is)
    (in_actions fine (same_actions _ _ c.in_err-new.ensures.succeeds.1) refl, λ same. cc)

pub returns : goal.returns
returns c = rw (← c.filter.view_is, c.in_ok-new.ensures.made)
    (policy_made c.args.arch _ c.as_slice.result.now c.in_ok-gathered.gathered c.in-Ok.chains c.as_slice.ensures.value
    c.in_ok-gathered.ensures.0 c.in_ok-gathered.ensures.1 c.in-Ok.ensures (c.in_ok-new.ensures.succeeds.0 refl))
