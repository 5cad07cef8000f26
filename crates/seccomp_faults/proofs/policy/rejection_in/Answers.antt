use Rattle.std.proofs.Common.{sym, ◌∙◌, subst}
use Rattle.seccomp_faults.specs.Checks.{IsAtOf}
use Rattle.seccomp_faults.proofs.Judgements.{are_placed}
use Rattle.seccomp_faults.proofs.Parts.{view}
use Rattle.seccomp_faults.proofs.policy.rejection_in.Goals as goal

pub returns-in-Some-first_of : goal.returns-in-Some-first_of
returns-in-Some-first_of c = λ text is told.
    let own = c.in-Some-first_of in
    let at = subst (λ all. IsAtOf c.in-Some.cause all own.first) c.deref.ensures.value own.ensures in
    are_placed c.args.target text (view c.args.value.now) is c.args.refusal c.in-Some.cause own.first c.in-Ok.faults told
    (sym c.cause_of_error.ensures ∙ c.in-Some.is) c.in-Ok.ensures at
