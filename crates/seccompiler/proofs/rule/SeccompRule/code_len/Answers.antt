use Rattle.std.proofs.Common.{◌≡◌, ◌+◌, ◌≤◌, ◌^◌, ◌-◌, ◌∙◌, ap, length, min, arith}
use Rattle.seccompiler.specs.Policy.{size_of}
use Rattle.seccompiler.specs.Layout.{rule_length}
use Rattle.seccompiler.proofs.rule.GroupCuts.{groups_of-only, relays_small}
use Rattle.seccompiler.proofs.rule.RuleLoops.{counted_more, counted_relay, counted_at, counted_rule}
use Rattle.seccompiler.proofs.rule.SeccompRule.code_len.Goals as goal
use Rattle.seccompiler.proofs.rule.SeccompRule.code_len.Goals.{then-offset-gt-GREATEST_OFFSET, else-offset-gt-GREATEST_OFFSET}

pub loop-condition-preserved : goal.loop-condition-preserved
loop-condition-preserved c = let l = c.loop-condition in
    let size : c.code_len-size.result ≡ size_of c.condition-item.result = c.code_len-size.ensures in
    let sum = c.saturating_add-length-in-loop-condition.ensures in
    counted_at c.deref-condition-items.result.now l.condition-index c.condition-item.result
    _ _ c.loop-condition-test.true c.condition-item.is
    (elim c.if-offset-gt-GREATEST_OFFSET.branch [
      | then-offset-gt-GREATEST_OFFSET w ↦ counted_relay _ c.condition-item.result l.length _ l.offset _ w.if-offset-gt-GREATEST_OFFSET.true
          (sum ∙ λ i. min ((w.length-is ∙ w.saturating_add-length.ensures) i + size i) (2 ^ 64 - 1)) (λ i. w.offset-is i + size i)
          l.invariant
      | else-offset-gt-GREATEST_OFFSET w ↦ counted_more _ c.condition-item.result l.length _ l.offset _ w.if-offset-gt-GREATEST_OFFSET.false
          (sum ∙ λ i. min (w.length-is i + size i) (2 ^ 64 - 1)) (λ i. w.offset-is i + size i) l.invariant
    ])

pub returns : goal.returns
returns c = let same = c.deref-condition-items.ensures.value ∙ c.self.view_is in
    let some : 1 ≤ length c.deref-condition-items.result.now =
    omega (arith, ap length c.deref-condition-items.ensures.value, c.self.invariant) in
    record {
      length = counted_rule c.deref-condition-items.result.now c.loop-condition.condition-index
          c.loop-condition.length c.loop-condition.offset some c.loop-condition-test.false c.loop-condition.invariant
          ∙ ap (λ q. min (rule_length q) (2 ^ 64 - 1)) same;
      groups = groups_of-only c.args.self.now;
      few_relays = relays_small c.args.self.now;
    }
