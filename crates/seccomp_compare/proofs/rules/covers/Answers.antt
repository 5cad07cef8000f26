use Rattle.std.proofs.Common.{ℕ, Bor, List, inr, map, refl, subst}
use Rattle.std.specs.Prelude.{All}
use Rattle.std.proofs.lemmas.List.{take_all}
use Rattle.std.proofs.lemmas.List.Elements.{All-map, All-more}
use Rattle.seccompiler.specs.Policy.{Rule}
use Rattle.seccompiler.specs.declared.condition.SeccompCondition.{SeccompCondition}
use Rattle.seccomp_compare.specs.Cover.{Covers, IsCallOf, SomeHolds}
use Rattle.seccomp_compare.proofs.KnownBits.{contains_map}
use Rattle.seccomp_compare.proofs.rules.covers.Goals.{in-Some, in_default+in_ok-cover_by+in-Covered}
use Rattle.seccomp_compare.proofs.rules.covers.Goals as goal

pub loop-rule-preserved : goal.loop-rule-preserved
loop-rule-preserved c =
    let others : List Rule = map (λ q. q.now) c.args.others.now in
    let arch = c.args.arch in
    let number = c.args.number in
    let IsCovered = λ (q : Bor (List SeccompCondition)). (r : List ℕ) → IsCallOf arch number q.now r → SomeHolds others r in
    let covered : IsCovered c.rule-item.result = elim c.match-implied_from.branch [
      | in-Some w ↦ λ r call. w.in-Some.ensures refl r call.holds
      | in_default+in_ok-cover_by+in-Covered w ↦
          subst (Covers arch number c.rule-item.result.now others c.args.most) w.in-Covered.is w.in_ok-cover_by.ensures
    ] in
    All-more IsCovered c.args.rules.now c.loop-rule.rule-index c.rule-item.result c.loop-rule-test.true c.loop-rule.invariant
    (subst IsCovered c.rule-item.is covered)

pub returns-clause-covered : goal.returns-clause-covered
returns-clause-covered c = λ _.
    let others : List Rule = map (λ q. q.now) c.args.others.now in
    let IsCovered = λ (q : Rule). (r : List ℕ) → IsCallOf c.args.arch c.args.number q r → SomeHolds others r in
    let now = λ (q : Bor (List SeccompCondition)). q.now in
    inr (All-map IsCovered now c.args.rules.now (subst (All (λ (q : Bor (List SeccompCondition)). IsCovered q.now))
    (take_all c.loop-rule.rule-index c.args.rules.now c.loop-rule-test.false) c.loop-rule.invariant))

pub returns-in_default-2-clause-uncovered : goal.returns-in_default-2-clause-uncovered
returns-in_default-2-clause-uncovered c = λ _.
    let there = contains_map (λ (q : Bor (List SeccompCondition)). q.now) c.args.rules.now c.loop-rule.rule-index c.rule-item.result
    c.loop-rule-test.true c.rule-item.is in
    (there.0, c.rule-item.result.now, there.1, there.2, (c.in_ok-cover_by.field-0, c.in_default-2.not-Covered, c.in_ok-cover_by.ensures))
