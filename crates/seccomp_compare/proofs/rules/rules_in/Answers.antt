use Rattle.std.proofs.Common.{[], ◌∷◌, ◌++◌, Bor, List, map, take, sym, ap, ◌∙◌}
use Rattle.std.proofs.lemmas.List.{map-append, take_all}
use Rattle.seccompiler.specs.Policy.{Rule}
use Rattle.seccompiler.specs.declared.condition.SeccompCondition.{SeccompCondition}
use Rattle.seccomp_compare.proofs.KnownBits.{take_next}
use Rattle.seccomp_compare.proofs.rules.rules_in.Goals as goal

pub loop-rule-preserved : goal.loop-rule-preserved
loop-rule-preserved c =
    let now = λ (q : Bor (List SeccompCondition)). q.now in
    let chain = c.args.chain.now in
    let k = c.loop-rule.rule-index in
    let old = c.loop-rule.rules.items in
    ap (map now) c.in_ok-push.ensures.items ∙ map-append now old (c.conditions.result ∷ [])
    ∙ ap (λ (qs : List Rule). qs ++ c.conditions.result.now ∷ []) c.loop-rule.invariant
    ∙ ap (λ (q : Rule). take k chain ++ q ∷ []) c.conditions.ensures
    ∙ sym (take_next chain k c.rule-item.result c.loop-rule-test.true c.rule-item.is)

pub returns : goal.returns
returns c = c.loop-rule.invariant ∙ take_all c.loop-rule.rule-index c.args.chain.now c.loop-rule-test.false
