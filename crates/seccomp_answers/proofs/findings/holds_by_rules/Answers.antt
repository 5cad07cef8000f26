use Rattle.std.proofs.Common.{IfSome, Option, subst, sym}
use Rattle.std.proofs.lemmas.Result.{IfOk-weaker}
use Rattle.seccomp_answers.specs.Findings.{AreReturned, IsFound}
use Rattle.seccomp_answers.specs.Rulings.{AreOf}
use Rattle.seccomp_answers.specs.declared.findings.Answer.TheVariants.{Holds}
use Rattle.seccomp_answers.specs.declared.findings.Filters.{Filters}
use Rattle.seccomp_answers.specs.declared.findings.Part.{Part}
use Rattle.seccomp_answers.proofs.findings.Settled.{settled_by}
use Rattle.seccomp_answers.proofs.findings.holds_by_rules.Goals as goal

pub returns : goal.returns
returns c =
    let target = c.args.terms.target in
    let relation = c.args.terms.relation in
    let f = c.in-Some.filters in
    IfOk-weaker c.is_related_on.result _ _ (λ holds is yes new old both.
    let of : AreOf target new old f = subst (λ (o : Option Filters). IfSome o (AreOf target new old)) c.in-Some.is both in
    subst (λ (part : Part). IsFound target relation (AreReturned new old) part Holds) (sym c.in-Named.is)
    (settled_by target relation new old f.new.now f.old.now of.of_new of.of_old c.in-Named.number (is yes))) c.is_related_on.ensures.related
