use Rattle.std.proofs.Common.{rules, IfOk, IfErr}
use Rattle.std.proofs.lemmas.Result.{IfOk-weaker}
use Rattle.seccompiler.specs.JsonPolicyOf.{IsPolicyOf}
use Rattle.seccompiler.specs.JsonSteps.{IsPolicyRefusal}
use Rattle.seccompiler.proofs.json.policy.MetEntries.{policies_match_entries}
use Rattle.seccompiler.proofs.json.policy.Policies.{one_policy, one_fault, not_both, policy_or_fault, numbers_in_range}
use Rattle.seccompiler.proofs.json.compiler.JsonCompiler.make_seccomp_filter.Goals as goal

pub returns-in-Err : goal.returns-in-Err
returns-in-Err c = let arch = c.self.inside.arch in
    let filter = c.args.filter.now in
    rw (← c.self.view_is) (record {
      policy = tt;
      refusal = tt;
      numbers = tt;
      only_policy = one_policy arch filter;
      only_fault = one_fault arch filter;
      not_both = not_both arch filter;
      one_of_both = policy_or_fault arch filter;
      entries = policies_match_entries arch;
    })

pub returns-in-Ok : goal.returns-in-Ok
returns-in-Ok c = let arch = c.self.inside.arch in
    let filter = c.args.filter.now in
    let policy : IfOk c.lent_seccomp_filter.result (IsPolicyOf arch filter) = search rules in
    let refusal : IfErr c.lent_seccomp_filter.result (IsPolicyRefusal arch filter) = search rules in
    rw (← c.self.view_is) (record {
      policy = policy;
      refusal = refusal;
      numbers = IfOk-weaker _ _ _ (numbers_in_range arch filter) policy;
      only_policy = one_policy arch filter;
      only_fault = one_fault arch filter;
      not_both = not_both arch filter;
      one_of_both = policy_or_fault arch filter;
      entries = policies_match_entries arch;
    })
