use Rattle.std.proofs.Common.{Bor, Option, ap, refl, sym, subst}
use Rattle.seccomp_compare.specs.Machine.{IsChecked}
use Rattle.seccomp_answers.specs.Rulings.{StandsFor, of_filter}
use Rattle.seccomp_answers.proofs.sides.Filters.{fitting_stands}
use Rattle.std.proofs.lemmas.Result.{err_from_is_err_and}
use Rattle.std.specs.Prelude.{option_map}
use Rattle.seccompiler.specs.Policy.{Filter}
use Rattle.seccomp_answers.proofs.diff.found_of.Goals as goal
use Rattle.seccomp_answers.specs.Causes.{of_new, of_old}

pub findings_of-requires-clause-new_checked : goal.findings_of-requires-clause-new_checked
findings_of-requires-clause-new_checked g c =
    subst IsChecked (sym c.deref.ensures.value)
    (fitting_stands c.args.terms.target c.in-Some.new.now c.in-Ok.by_new.items c.in-Ok.ensures.fitting).checked

pub findings_of-requires-clause-old_checked : goal.findings_of-requires-clause-old_checked
findings_of-requires-clause-old_checked g c =
    subst IsChecked (sym c.deref-2.ensures.value)
    (fitting_stands c.args.terms.target c.args.old.now c.in_ok-by_old.by_old.items c.in_ok-by_old.ensures.fitting).checked

pub returns-clause-found : goal.returns-clause-found
returns-clause-found g c =
    let target = c.args.terms.target in
    let new = of_filter c.in-Some.new.now in
    let old = of_filter c.args.old.now in
    let of_new = fitting_stands target c.in-Some.new.now c.in-Ok.by_new.items c.in-Ok.ensures.fitting in
    let of_old = fitting_stands target c.args.old.now c.in_ok-by_old.by_old.items c.in_ok-by_old.ensures.fitting in
    rw c.in-Some.is (c.in_ok-findings.ensures new old (subst (StandsFor target new) (sym c.deref.ensures.value) of_new)
    (subst (StandsFor target old) (sym c.deref-2.ensures.value) of_old))

pub findings_of-requires-clause-filters : goal.findings_of-requires-clause-filters
findings_of-requires-clause-filters g c =
    let target = c.args.terms.target in
    let new = c.in-Some.new.now in
    let old = c.args.old.now in
    record {
      of_new = subst (StandsFor target (of_filter new)) (sym c.deref.ensures.value)
          (fitting_stands target new c.in-Ok.by_new.items c.in-Ok.ensures.fitting);
      of_old = subst (StandsFor target (of_filter old)) (sym c.deref-2.ensures.value)
          (fitting_stands target old c.in_ok-by_old.by_old.items c.in_ok-by_old.ensures.fitting);
    }

pub returns-in_err-by_old-clause-cause : goal.returns-in_err-by_old-clause-cause
returns-in_err-by_old-clause-cause g c =
    let error = err_from_is_err_and c.from_residual.result c.from_residual.ensures.1 in
    rw (error.1, error.2) (of_old (c.in_err-by_old.field-0.0, c.in_err-by_old.ensures.refused, refl))

pub returns-in-Err-clause-cause : goal.returns-in-Err-clause-cause
returns-in-Err-clause-cause g c =
    let f = c.in-Some.new.now in
    of_new c.into.result (
      f,
      ap (λ (o : Option (Bor Filter)). option_map (λ g. g.now) o) c.in-Some.is,
      (c.in-Err.error, c.in-Err.ensures.refused, c.into.ensures),
    ) c.in_second.ensures
