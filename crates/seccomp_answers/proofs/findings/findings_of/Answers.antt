use Rattle.std.proofs.Common.{◌^◌, subst, sym}
use Rattle.std.proofs.lemmas.Result.{IfOk-weaker}
use Rattle.seccompiler.specs.Architecture.{table_of}
use Rattle.seccomp_answers.specs.Findings.{ArePartsBelow}
use Rattle.seccomp_answers.proofs.findings.Decided.{decided}
use Rattle.seccomp_answers.proofs.findings.findings_of.Goals as goal

pub returns : goal.returns
returns g c =
    let target = c.args.terms.target in
    let whole = subst (λ parts. ArePartsBelow (table_of target) parts (2 ^ 32)) (sym c.deref.ensures.value) c.in_ok-parts.ensures in
    IfOk-weaker c.found_on.result _ _ (λ findings found by_new by_old of_new of_old.
    decided target c.args.terms.relation c.args.new.now c.args.old.now by_new by_old of_new of_old c.deref.result.now findings.items whole
    found) c.found_on.ensures
