use Rattle.seccomptool.proofs.Common.{◌∙◌, IfErr-at_err, IfOk-at_ok, IfOk-weaker, IsDiff, IsSideOf, IsUndiffed, List, Made}
use Rattle.seccomptool.proofs.Common.{err_from_is_err_and, subst, ℕ}
use Rattle.seccomptool.specs.Causes.{of_sides}
use Rattle.seccomptool.proofs.diff.diff_made.Goals as goal

pub returns-clause-made : goal.returns-clause-made
returns-clause-made c =
    let asked = c.args.asked.now in
    let old = c.in_ok-old.old in
    let new = c.in_ok-new.new in
    IfOk-weaker c.of.result _ _ (λ (made : Made) is. (
      record {
        old = old;
        new = new;
        of_old = subst (λ (given : List ℕ). IsSideOf asked.reading asked.old.filter given old) c.deref.ensures.value c.in_ok-old.ensures;
        of_new = subst (λ (given : List ℕ). IsSideOf asked.reading asked.new.filter given new) c.deref-2.ensures.value c.in_ok-new.ensures;
        found = c.in_ok-found.found;
        is = IfOk-at_ok (IsDiff asked.terms.target asked.terms.relation old new) c.in_ok-found.was c.diff_of-found.ensures.diff;
        verdict = is.1 ∙ c.verdict-verdict.ensures;
      },
      is.2,
    )) c.of.ensures.made

pub returns-in_err-found-clause-cause : goal.returns-in_err-found-clause-cause
returns-in_err-found-clause-cause c =
    let asked = c.args.asked.now in
    let old = c.in_ok-old.old in
    let new = c.in_ok-new.new in
    let why = IfErr-at_err (IsUndiffed asked.terms.target old new) c.in_err-found.was c.diff_of-found.ensures.cause in
    let error = err_from_is_err_and c.from_residual-in_err-found.result c.from_residual-in_err-found.ensures.1 in
    rw (error.1, error.2) (of_sides old new
    (subst (λ (given : List ℕ). IsSideOf asked.reading asked.old.filter given old) c.deref.ensures.value c.in_ok-old.ensures)
    (subst (λ (given : List ℕ). IsSideOf asked.reading asked.new.filter given new) c.deref-2.ensures.value c.in_ok-new.ensures) why)
