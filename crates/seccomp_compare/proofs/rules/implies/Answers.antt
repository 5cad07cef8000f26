use Rattle.std.proofs.Common.{subst}
use Rattle.std.proofs.lemmas.List.{take_all}
use Rattle.std.proofs.lemmas.List.Elements.{All-contains, All-more}
use Rattle.seccompiler.specs.Policy.{Condition, Holds, RuleHolds}
use Rattle.seccomp_compare.proofs.rules.implies.Goals as goal

pub loop-condition-preserved : goal.loop-condition-preserved
loop-condition-preserved c = λ r met.
    let One = λ (d : Condition). Holds d r in
    let holds = All-contains One c.args.rule.now c.condition-item.result met (c.stands_in.ensures.0 c.if-not-stands_in.false) in
    All-more One c.args.other.now c.loop-condition.condition-index c.condition-item.result c.loop-condition-test.true
    (c.loop-condition.invariant r met) (subst One c.condition-item.is holds)

pub returns : goal.returns
returns c = λ _ r met.
    subst (λ q. RuleHolds q r) (take_all c.loop-condition.condition-index c.args.other.now c.loop-condition-test.false)
    (c.loop-condition.invariant r met)
