use Rattle.std.proofs.Common.{List, [], ◌∷◌, Bor, map, sym, ap, ◌∙◌, subst, take}
use Rattle.std.proofs.lemmas.List.{map-append, take_all}
use Rattle.seccompiler.specs.declared.condition.SeccompCondition.{SeccompCondition}
use Rattle.seccomp_compare.specs.Cover.{OnRules}
use Rattle.seccomp_compare.proofs.KnownBits.{take_next}
use Rattle.seccomp_compare.proofs.covered.on_rules.Goals as goal

pub loop-rule-preserved : goal.loop-rule-preserved
loop-rule-preserved c =
    let others = c.args.others.now in
    let k = c.loop-rule.rule-index in
    let now = λ (q : Bor (List SeccompCondition)). q.now in
    subst (λ rules. OnRules c.args.part.now c.args.own.now rules c.with_rule-seen.result)
    (sym (ap (map now) (take_next others k c.rule-item.result c.loop-rule-test.true c.rule-item.is)
    ∙ map-append now (take k others) (c.rule-item.result ∷ [])))
    (c.with_rule-seen.ensures (map now (take k others)) c.loop-rule.invariant)

pub returns : goal.returns
returns c =
    subst (λ rules. OnRules c.args.part.now c.args.own.now (map (λ (q : Bor (List SeccompCondition)). q.now) rules) c.loop-rule.seen)
    (take_all c.loop-rule.rule-index c.args.others.now c.loop-rule-test.false) c.loop-rule.invariant
