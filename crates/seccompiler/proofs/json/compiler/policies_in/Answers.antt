use Rattle.std.proofs.Common.{string_cmp, sym, subst}
use Rattle.std.specs.BTreeMap.{IsFromIterResult, get_by_text}
use Rattle.serde_json.specs.View.{view}
use Rattle.seccompiler.specs.JsonAnswers.{ArePoliciesOf, HasPolicy}
use Rattle.seccompiler.proofs.ByName.{collected_of, ordered}
use Rattle.seccompiler.proofs.ReadBack.{read_back}
use Rattle.seccompiler.proofs.json.compiler.TextPolicies.{have_table_numbers}
use Rattle.seccompiler.proofs.json.compiler.policies_in.Goals as goal

pub returns-in-Ok : goal.returns-in-Ok
returns-in-Ok c =
    let arch = c.args.arch in
    let d = view c.args.value.now in
    let m = c.in-Ok.filters in
    let policies = c.in_ok-policies.policies in
    let made : IsFromIterResult string_cmp policies.items m = rw c.in-Ok.is at
    (collected_of (IsFromIterResult string_cmp) policies _ _ c.into_iter.ensures.rest c.into_iter.ensures.len c.collect.ensures.ran) in
    let same = ordered _ m c.in_ok-policies.ensures.0 made in
    let are = subst (λ find. ArePoliciesOf arch find d) (λ i q. sym (same q) i) c.in_ok-policies.ensures.1 in
    record {
      policies = are;
      read_back = read_back (HasPolicy arch) m made.1;
      numbers = have_table_numbers arch d (get_by_text m) are;
      fault = tt;
      no_reader = tt;
      memory = tt;
    }
