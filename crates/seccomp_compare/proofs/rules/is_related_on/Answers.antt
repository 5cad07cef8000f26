use Rattle.std.proofs.Common.{Bor, Bool, false, ◌≡◌, Result, Ok, Err, List, ap, map, sym, ◌∙◌}
use Rattle.std.specs.Prelude.{IfOk}
use Rattle.std.proofs.lemmas.Bool.{false≢true}
use Rattle.std.proofs.lemmas.Result.{IfOk-weaker}
use Rattle.seccompiler.specs.Architecture.{audit_word}
use Rattle.seccompiler.specs.Policy.{word_of}
use Rattle.seccompiler.specs.declared.condition.SeccompCondition.{SeccompCondition}
use Rattle.seccomp_compare.specs.Rules.{terms_differ}
use Rattle.seccomp_compare.proofs.RulesUnder.{not_around, not_within, related_on, same_apart, same_words}
use Rattle.seccomp_compare.proofs.rules.is_related_on.Goals as goal

-- what two clauses say together of what is found
unseen_by : {E : Type 0} {P Q R : Bool → Type 0} (o : Result Bool E)
    → ((is : Bool) → is ≡ false → (is ≡ false → P is) → (is ≡ false → Q is) → R is)
    → IfOk o (λ is. is ≡ false → P is) → IfOk o (λ is. is ≡ false → Q is) → IfOk o (λ is. is ≡ false → R is)
unseen_by (Ok is) by p q = λ not. by is not p q
unseen_by (Err e) by p q = tt

pub returns-then-not-is_related-2-clause-unseen : goal.returns-then-not-is_related-2-clause-unseen
returns-then-not-is_related-2-clause-unseen c = λ _.
    let default = c.from-default.ensures ∙ ap word_of c.mismatch_action.ensures in
    let other_default = c.from-other_default.ensures ∙ ap word_of c.mismatch_action-2.ensures in
    terms_differ (λ _ _ none. false≢true (sym c.if-not-is_related-2.true
    ∙ c.is_related-2.ensures.1 ((same_words c.args.relation _ _ _ _ default other_default).1 none)))

pub returns-then-not-branch-clause-unseen : goal.returns-then-not-branch-clause-unseen
returns-then-not-branch-clause-unseen c = λ _.
    let f = c.args.filter.now in
    let g = c.args.other.now in
    let relation = c.args.relation in
    let number = c.args.number in
    let own = c.target_arch-arch.result in
    let now = λ (q : Bor (List SeccompCondition)). q.now in
    let same = c.target_arch-arch.ensures in
    let arch = sym (c.get_audit_value.ensures ∙ ap audit_word same) ∙ c.if-get_audit_value.false
    ∙ (c.get_audit_value-2.ensures ∙ ap audit_word c.target_arch.ensures) in
    let matched = c.from-matched.ensures ∙ ap word_of c.match_action.ensures in
    let other_default = c.from-other_default.ensures ∙ ap word_of c.mismatch_action-2.ensures in
    let rules = ap (map now) c.deref.ensures.value ∙ c.in_ok-rules.ensures in
    let others = ap (map now) c.deref-2.ensures.value ∙ c.in_ok-other_rules.ensures in
    not_within relation f g number own same arch c.args.most c.is_related-is_apart.result _ _ _ _ matched other_default rules others
    c.is_related-is_apart.ensures.1 (c.in_ok-covers.ensures.enough c.if-not-branch.true)
    (c.in_ok-covers.ensures.uncovered c.if-not-branch.true)

pub returns-clause-related : goal.returns-clause-related
returns-clause-related c =
    let f = c.args.filter.now in
    let g = c.args.other.now in
    let relation = c.args.relation in
    let number = c.args.number in
    let own = c.target_arch-arch.result in
    let now = λ (q : Bor (List SeccompCondition)). q.now in
    let same = c.target_arch-arch.ensures in
    let arch = sym (c.get_audit_value.ensures ∙ ap audit_word same) ∙ c.if-get_audit_value.false
    ∙ (c.get_audit_value-2.ensures ∙ ap audit_word c.target_arch.ensures) in
    let matched = c.from-matched.ensures ∙ ap word_of c.match_action.ensures in
    let other_default = c.from-other_default.ensures ∙ ap word_of c.mismatch_action-2.ensures in
    let default = c.from-default.ensures ∙ ap word_of c.mismatch_action.ensures in
    let other_matched = c.from-other_matched.ensures ∙ ap word_of c.match_action-2.ensures in
    let rules = ap (map now) c.deref.ensures.value ∙ c.in_ok-rules.ensures in
    let others = ap (map now) c.deref-2.ensures.value ∙ c.in_ok-other_rules.ensures in
    let rules_too = ap (map now) c.deref-4.ensures.value ∙ c.in_ok-rules.ensures in
    let others_too = ap (map now) c.deref-3.ensures.value ∙ c.in_ok-other_rules.ensures in
    let first = same_apart relation own number c.is_related-is_apart.result _ _ _ _ _ _ _ _ c.is_related-is_apart.ensures.0 matched
    other_default rules others (c.in_ok-covers.ensures.covered c.if-not-branch.false) in
    IfOk-weaker c.covers-2.result _ _ (λ is second yes. related_on relation f g number own same arch
    ((same_words relation _ _ _ _ matched other_matched).0 (c.is_related.ensures.0 c.if-not-is_related.false))
    ((same_words relation _ _ _ _ default other_default).0 (c.is_related-2.ensures.0 c.if-not-is_related-2.false)) first
    (same_apart relation own number c.is_related-is_apart-2.result _ _ _ _ _ _ _ _ c.is_related-is_apart-2.ensures.0 default other_matched
    others_too rules_too (second yes))) c.covers-2.ensures.covered

pub returns-clause-unseen : goal.returns-clause-unseen
returns-clause-unseen c =
    let f = c.args.filter.now in
    let g = c.args.other.now in
    let relation = c.args.relation in
    let number = c.args.number in
    let own = c.target_arch-arch.result in
    let now = λ (q : Bor (List SeccompCondition)). q.now in
    let same = c.target_arch-arch.ensures in
    let arch = sym (c.get_audit_value.ensures ∙ ap audit_word same) ∙ c.if-get_audit_value.false
    ∙ (c.get_audit_value-2.ensures ∙ ap audit_word c.target_arch.ensures) in
    let default = c.from-default.ensures ∙ ap word_of c.mismatch_action.ensures in
    let other_matched = c.from-other_matched.ensures ∙ ap word_of c.match_action-2.ensures in
    let rules_too = ap (map now) c.deref-4.ensures.value ∙ c.in_ok-rules.ensures in
    let others_too = ap (map now) c.deref-3.ensures.value ∙ c.in_ok-other_rules.ensures in
    unseen_by c.covers-2.result (λ is not enough one. not_around relation f g number own same arch c.args.most
    c.is_related-is_apart-2.result _ _ _ _ default other_matched others_too rules_too c.is_related-is_apart-2.ensures.1 (enough not)
    (one not)) c.covers-2.ensures.enough c.covers-2.ensures.uncovered
