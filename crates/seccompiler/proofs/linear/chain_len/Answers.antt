use Rattle.std.proofs.Common.{◌≡◌, ℕ, ◌+◌, ◌-◌, ◌<◌, ◌^◌, ◌++◌, ◌∷◌, [], length, take, get_or, min, sym, ap, ◌∙◌, arith}
use Rattle.std.proofs.lemmas.List.{take_more}
use Rattle.std.proofs.lemmas.List.Sums.{sum_by_push}
use Rattle.seccompiler.specs.Policy.{Rule, Chain}
use Rattle.seccompiler.specs.Layout.{rule_length, rules_length}
use Rattle.seccompiler.proofs.linear.chain_len.Goals as goal

-- one rule and its return more
longer : (m : ℕ) (chain : Chain) (i : ℕ) (q : Rule) {so_far own more further : ℕ} → i < length chain → q ≡ get_or chain i q
    → so_far ≡ min (2 + rules_length (take i chain)) m → own ≡ min (rule_length q) m → more ≡ min (so_far + own) m
    → further ≡ min (more + 1) m → further ≡ min (2 + rules_length (take (i + 1) chain)) m
longer m chain i q {so_far} {own} {more} {further} within is first second third fourth =
    let whole : take (i + 1) chain ≡ take i chain ++ q ∷ [] = take_more chain i q within ∙ ap (λ x. take i chain ++ x ∷ []) (sym is) in
    let sum = ap rules_length whole ∙ sum_by_push (λ rule. rule_length rule + 1) (take i chain) q in
    omega (arith, first, second, third, fourth, sum)

pub loop-rule-preserved : goal.loop-rule-preserved
loop-rule-preserved c = longer (2 ^ 64 - 1) c.args.chain.now c.loop-rule.rule-index c.rule-item.result c.loop-rule-test.true c.rule-item.is
    c.loop-rule.invariant c.code_len.ensures.length c.saturating_add.ensures c.saturating_add-length.ensures
