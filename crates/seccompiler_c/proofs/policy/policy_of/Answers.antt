use Rattle.std.proofs.Common.{◌≡◌, ℕ, List, Option, Some, None, IfSome, sym, ◌∙◌, subst}
use Rattle.std.specs.Prelude.{All}
use Rattle.std.specs.BTreeMap.{get_by_text}
use Rattle.std.proofs.lemmas.Result.{err_from_is_err_and}
use Rattle.seccompiler.specs.JsonAnswers.{OfValue, ArePoliciesOf}
use Rattle.seccompiler.specs.Policy.{Filter}
use Rattle.seccompiler.specs.Compiled.{numbers_of}
use Rattle.seccompiler.specs.SyscallTable.{IsTableNumber}
use Rattle.seccompiler.specs.declared.backend.TargetArch.{TargetArch}
use Rattle.seccompiler_c.specs.Policies.{IsPolicyFault, from_frontend, NamesPolicy, NamesNone}
use Rattle.seccompiler_c.proofs.Policies.{text_refused, names_policy, names_none, utf8_where_found}
use Rattle.seccompiler_c.proofs.policy.policy_of.Goals as goal

pub returns-in_err-policies-clause-fault : goal.returns-in_err-policies-clause-fault
returns-in_err-policies-clause-fault c =
    let error = err_from_is_err_and c.from_residual.result c.from_residual.ensures.1 in
    let e = c.in_err-policies.field-0.0 in
    let text = c.args.text.now in
    let name = c.args.name.now in
    rw (error.1, error.2) (subst (λ (target : TargetArch). IsPolicyFault target text name (from_frontend e)) c.new.ensures
    (text_refused c.new.result text name e c.in_err-policies.ensures.fault c.in_err-policies.ensures.no_reader))

pub returns-in_default-clause-fault : goal.returns-in_default-clause-fault
returns-in_default-clause-fault c =
    let find = get_by_text c.in_ok-policies.policies in
    let text = c.args.text.now in
    let name = c.args.name.now in
    let policies : OfValue text (ArePoliciesOf c.new.result find) = c.in_ok-policies.ensures.policies in
    let none = λ (policy : Filter) (found : find name ≡ Some policy). c.in_default.ensures.cases.0
    (utf8_where_found name c.in_ok-policies.policies.entries policy found) in
    subst (λ (target : TargetArch). NamesNone target text name) c.new.ensures (names_none c.new.result text name find policies none)

pub returns-in-Some-clause-policy : goal.returns-in-Some-clause-policy
returns-in-Some-clause-policy c =
    let find = get_by_text c.in_ok-policies.policies in
    let text = c.args.text.now in
    let name = c.args.name.now in
    let policy = c.in-Some.policy in
    let policies : OfValue text (ArePoliciesOf c.new.result find) = c.in_ok-policies.ensures.policies in
    let there : find name ≡ Some policy =
    subst (λ (called : List ℕ). find called ≡ Some policy) c.in-Ok.ensures.cases.0 (sym c.in-Some.ensures.value) in
    subst (λ (target : TargetArch). NamesPolicy target text name (λ p. p ≡ policy)) c.new.ensures
    (names_policy c.new.result text name find policy policies there)

pub returns-in-Some-clause-numbers : goal.returns-in-Some-clause-numbers
returns-in-Some-clause-numbers c =
    let find = get_by_text c.in_ok-policies.policies in
    let name = c.args.name.now in
    let policy = c.in-Some.policy in
    let there : find name ≡ Some policy =
    subst (λ (called : List ℕ). find called ≡ Some policy) c.in-Ok.ensures.cases.0 (sym c.in-Some.ensures.value) in
    subst (λ (o : Option Filter). IfSome o (λ (f : Filter). All IsTableNumber (numbers_of f.chains))) there
    (c.in_ok-policies.ensures.numbers name)

pub returns-clause-fault : goal.returns-clause-fault
returns-clause-fault c =
    let find = get_by_text c.in_ok-policies.policies in
    let text = c.args.text.now in
    let name = c.args.name.now in
    let policies : OfValue text (ArePoliciesOf c.new.result find) = c.in_ok-policies.ensures.policies in
    let nowhere : find name ≡ None =
    subst (λ (called : List ℕ). find called ≡ None) c.in-Ok.ensures.cases.0 (sym c.in-None.ensures.value) in
    let none : (policy : Filter) → find name ≡ Some policy → ⊥ =
    λ policy found. (let differ : Some policy ≡ None = sym found ∙ nowhere in cc) in
    subst (λ (target : TargetArch). NamesNone target text name) c.new.ensures (names_none c.new.result text name find policies none)
