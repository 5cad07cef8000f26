use Rattle.std.proofs.Common.{◌≡◌, sym, ◌∙◌, refl}
use Rattle.seccompiler.specs.Policy.{Condition, Holds}
use Rattle.seccompiler.proofs.Searches.{All-one_more, All-whole}
use Rattle.std.proofs.lemmas.List.Elements.{All-same}
use Rattle.seccompiler.proofs.rule.SeccompRule.holds.Goals as goal

pub loop-condition-preserved : goal.loop-condition-preserved
loop-condition-preserved c =
    All-one_more (λ condition. Holds condition c.args.call.now) c.deref-condition-items.result.now c.loop-condition.condition-index
    c.condition-item.result c.loop-condition-test.true c.condition-item.is c.loop-condition.invariant (c.if-not-holds.ensures.holds.0 refl)

pub returns : goal.returns
returns c = let holds = λ (condition : Condition). Holds condition c.args.call.now in
    let same : c.args.self.now ≡ c.deref-condition-items.result.now = sym c.self.view_is ∙ sym c.deref-condition-items.ensures.value in (
      λ _. All-same holds c.args.self.now c.deref-condition-items.result.now same
          (All-whole holds c.deref-condition-items.result.now c.loop-condition.condition-index
          c.loop-condition-test.false c.loop-condition.invariant),
      λ _. refl,
    )
