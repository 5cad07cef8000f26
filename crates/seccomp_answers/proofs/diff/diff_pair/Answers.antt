use Rattle.std.proofs.Common.{◌≡◌, ℕ, List, Option, Some, None, [], ◌∷◌, ◌+◌, ◌-◌, ◌^◌, ap, subst, sym}
use Rattle.seccomp_answers.specs.declared.findings.Filters.{Filters}
use Rattle.seccomp_answers.specs.declared.findings.Part.TheVariants.{Elsewhere}
use Rattle.seccompiler.specs.Architecture.{audit_word}
use Rattle.seccomp_answers.specs.Findings.{AreFoundOn, AreReturned}
use Rattle.seccomp_answers.specs.Rulings.{AreDecided, AreOf, StandsFor, of_filter}
use Rattle.std.specs.Prelude.{IfSome}
use Rattle.seccompiler.specs.Policy.{Filter}
use Rattle.seccompiler.specs.declared.backend.TargetArch.{TargetArch}
use Rattle.seccompiler.specs.declared.bpf.sock_filter.{sock_filter}
use Rattle.seccomp_answers.specs.Chosen.{text_of}
use Rattle.seccomp_answers.specs.Sides.{IsFilterFor}
use Rattle.seccomp_answers.specs.declared.kind.Subject.{Subject}
use Rattle.seccomp_answers.specs.Diff.{other_parts}
use Rattle.seccomp_answers.proofs.findings.Decided.{decided_on}
use Rattle.seccomp_answers.proofs.diff.Others.{others_covered}
use Rattle.seccomp_answers.proofs.sides.Profiles.{side_stands}
use Rattle.std.proofs.lemmas.Result.{err_from_is_err_and}
use Rattle.seccomp_answers.proofs.diff.diff_pair.Goals as goal
use Rattle.seccomp_answers.specs.Causes.{of_new, of_old}

-- the program stands for the filter, if there is one
stands_of : (target : TargetArch) (kind : Subject) (asked : Option (List ℕ)) (given : List ℕ) (p q : List sock_filter)
    (filter : Option Filter) → q ≡ p → IfSome filter (IsFilterFor target kind asked given p)
    → IfSome filter (λ f. StandsFor target (of_filter f) q)
stands_of target kind asked given p q None same is = tt
stands_of target kind asked given p q (Some f) same is = subst (StandsFor target (of_filter f)) (sym same) is.stands

-- of two filters each program stands for its own
are_of : (target : TargetArch) (new old : List sock_filter) (both : Option Filters) (f g : Option Filter)
    → IfSome both (λ filters. (f ≡ Some filters.new.now) × (g ≡ Some filters.old.now))
    → IfSome f (λ filter. StandsFor target (of_filter filter) new) → IfSome g (λ filter. StandsFor target (of_filter filter) old)
    → IfSome both (AreOf target new old)
are_of target new old None f g are new_stands old_stands = tt
are_of target new old (Some filters) f g are new_stands old_stands = record {
  of_new = subst (λ o. IfSome o (λ filter. StandsFor target (of_filter filter) new)) are.0 new_stands;
  of_old = subst (λ o. IfSome o (λ filter. StandsFor target (of_filter filter) old)) are.1 old_stands;
}

pub findings_of-requires-clause-filters : goal.findings_of-requires-clause-filters
findings_of-requires-clause-filters g c =
    let target = c.args.terms.target in
    let by_new = c.in-Ok.by_new in
    let by_old = c.in_ok-by_old.by_old in
    let new = c.args.new in
    let old = c.args.old in
    let new_stands = stands_of target new.kind (text_of new.filter) new.given.now by_new.program.items c.deref-new.result.now by_new.filter
    c.deref-new.ensures.value c.in-Ok.ensures.filter in
    let old_stands = stands_of target old.kind (text_of old.filter) old.given.now by_old.program.items c.deref-old.result.now by_old.filter
    c.deref-old.ensures.value c.in_ok-by_old.ensures.filter in
    are_of target c.deref-new.result.now c.deref-old.result.now c.filters_of-filters.result by_new.filter by_old.filter
    c.filters_of-filters.ensures new_stands old_stands

-- the parts of other architectures
other_parts_are : (target : TargetArch) (word : ℕ) → word ≡ audit_word target
    → Elsewhere 0 (word - 1) ∷ Elsewhere (word + 1) (2 ^ 32 - 1) ∷ [] ≡ other_parts target
other_parts_are target word is = ap (λ w. Elsewhere 0 (w - 1) ∷ Elsewhere (w + 1) (2 ^ 32 - 1) ∷ []) is

pub returns-clause-pair : goal.returns-clause-pair
returns-clause-pair g c =
    let target = c.args.terms.target in
    let relation = c.args.terms.relation in
    let old = side_stands target c.args.old c.in_ok-by_old.by_old.program.items c.in_ok-by_old.ensures.ruled in
    let new = side_stands target c.args.new c.in-Ok.by_new.program.items c.in-Ok.ensures.ruled in
    let of_old = subst (StandsFor target old.0) (sym c.deref-old.ensures.value) old.2 in
    let of_new = subst (StandsFor target new.0) (sym c.deref-new.ensures.value) new.2 in
    let found = subst (λ parts. AreFoundOn target relation (AreReturned c.deref-new.result.now c.deref-old.result.now) parts
    c.in_ok-others.others.items) (other_parts_are target c.get_audit_value-word.result c.get_audit_value-word.ensures)
    c.in_ok-others.ensures in
    let on = decided_on target relation c.deref-new.result.now c.deref-old.result.now new.0 old.0 of_new of_old (other_parts target)
    c.in_ok-others.others.items found in
    record {
      old = old.0;
      new = new.0;
      of_old = old.1;
      of_new = new.1;
      own = c.in_ok-own.ensures new.0 old.0 of_new of_old;
      others = record { are = on; holds = others_covered target relation (AreDecided target new.0 old.0) c.in_ok-others.others.items on };
    }

pub returns-in_err-by_old-clause-cause : goal.returns-in_err-by_old-clause-cause
returns-in_err-by_old-clause-cause g c =
    let error = err_from_is_err_and c.from_residual.result c.from_residual.ensures.1 in
    rw (error.1, error.2) (of_old c.in_err-by_old.ensures.cause)

pub returns-in-Err-clause-cause : goal.returns-in-Err-clause-cause
returns-in-Err-clause-cause g c = of_new c.in-Err.error c.in-Err.ensures.cause c.in_second.ensures
