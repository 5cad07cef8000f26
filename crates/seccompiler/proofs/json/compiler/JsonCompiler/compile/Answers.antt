use Rattle.std.proofs.Common.{string_eq, sym, subst}
use Rattle.std.specs.HashMap.{IsFromIterResult, get_by_text}
use Rattle.std.proofs.lemmas.Result.{err_from_is_err_and}
use Rattle.serde_json.specs.View.{view}
use Rattle.seccompiler.specs.JsonAnswers.{ArePoliciesOf}
use Rattle.seccompiler.proofs.ByName.{collected_of, hashed}
use Rattle.seccompiler.proofs.json.compiler.TextPolicies.{have_table_numbers}
use Rattle.seccompiler.proofs.json.compiler.JsonCompiler.compile.Goals as goal

pub returns-in_err-value-clause-fault : goal.returns-in_err-value-clause-fault
returns-in_err-value-clause-fault g c =
    let p = err_from_is_err_and c.from_residual.result c.from_residual.ensures.1 in
    let read = c.in_err-value.ensures.fault in
    rw (p.1, p.2) (read.0, read.1, read.2 c.args.self.now)

pub returns-in_err-policies-clause-fault : goal.returns-in_err-policies-clause-fault
returns-in_err-policies-clause-fault g c =
    let p = err_from_is_err_and c.from_residual-in_err-policies.result c.from_residual-in_err-policies.ensures.1 in
    let read = c.in_ok-value.ensures.value in
    rw (p.1, p.2, ← c.self.view_is) (read.0, read.1, c.in_err-policies.ensures.0 read.0 read.2)

pub returns-in-Ok : goal.returns-in-Ok
returns-in-Ok g c =
    let arch = c.self.inside.arch in
    let d = view c.in_ok-value.value in
    let m = c.in-Ok.filters in
    let policies = c.in_ok-policies.policies in
    let read = c.in_ok-value.ensures.value in
    let made : IsFromIterResult string_eq policies.items m = rw c.in-Ok.is at
    (collected_of (IsFromIterResult string_eq) policies _ _ c.into_iter.ensures.rest c.into_iter.ensures.len c.collect.ensures.ran) in
    let same = hashed _ m c.in_ok-policies.ensures.0 made in
    let are = subst (λ find. ArePoliciesOf arch find d) (λ i q. sym (same q) i) c.in_ok-policies.ensures.1 in
    rw (← c.self.view_is) (record {
      policies = (read.0, read.1, (d, read.2, are));
      numbers = have_table_numbers arch d (get_by_text m) are;
      fault = tt;
      memory = tt;
    })
