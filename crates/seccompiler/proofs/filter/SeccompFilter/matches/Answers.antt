use Rattle.std.proofs.Common.{rules, true, nat_eq, ◌≡◌, Some, None, pos, ap, sym, ◌∙◌, refl, w64, inr}
use mir.Val.{SFits}
use Rattle.std.proofs.lemmas.Bool.{false≢true}
use Rattle.std.proofs.lemmas.Int.{to_z-of_z}
use Rattle.seccompiler.specs.Machine.{word_at}
use Rattle.seccompiler.specs.Policy.{Rule, Filter, RuleHolds, chain_under}
use Rattle.seccompiler.proofs.Searches.{All-one_more, All-whole}
use Rattle.seccompiler.proofs.filter.Chains.{found_chain, matches_by_chain, differs_without_chain, empty_or_any}
use Rattle.seccompiler.proofs.filter.SeccompFilter.matches.Goals as goal

pub returns-in_default : goal.returns-in_default
returns-in_default c =
    let f = c.args.self.now in let number = word_at c.args.call.now 0 in let fits : SFits w64 c.from.result = search rules in
    let key = to_z-of_z w64 c.from.result fits ∙ c.from.ensures ∙ ap pos c.word_at-number.ensures in
    let none : chain_under f.chains number ≡ None = ap (λ (g : Filter). chain_under g.chains number) (sym c.self.view_is)
    ∙ found_chain c.self.inside.rules.entries _ number None key c.in_default.ensures.value in
    differs_without_chain f c.args.call.now none

pub returns-then-holds : goal.returns-then-holds
returns-then-holds c =
    let f = c.args.self.now in let number = word_at c.args.call.now 0 in let fits : SFits w64 c.from.result = search rules in
    let key = to_z-of_z w64 c.from.result fits ∙ c.from.ensures ∙ ap pos c.word_at-number.ensures in
    let there : chain_under f.chains number ≡ Some c.deref-rule-items.result.now =
    ap (λ (g : Filter). chain_under g.chains number) (sym c.self.view_is)
    ∙ found_chain c.self.inside.rules.entries _ number (Some c.in-Some.chain.now) key c.in-Some.ensures.value
    ∙ ap Some (sym c.deref-rule-items.ensures.value) in
    matches_by_chain f c.args.call.now c.deref-rule-items.result.now true there
    (λ _. inr (c.loop-rule.rule-index, c.rule-item.result, c.loop-rule-test.true, sym c.rule-item.is, c.if-holds.ensures.0 refl), λ _. refl)

pub loop-rule-preserved : goal.loop-rule-preserved
loop-rule-preserved c =
    All-one_more (λ rule. RuleHolds rule c.args.call.now → ⊥) c.deref-rule-items.result.now c.loop-rule.rule-index
    c.rule-item.result c.loop-rule-test.true c.rule-item.is c.loop-rule.invariant (λ holds. false≢true (c.if-holds.ensures.1 holds))

pub returns : goal.returns
returns c =
    let f = c.args.self.now in let number = word_at c.args.call.now 0 in let fits : SFits w64 c.from.result = search rules in
    let key = to_z-of_z w64 c.from.result fits ∙ c.from.ensures ∙ ap pos c.word_at-number.ensures in
    let there : chain_under f.chains number ≡ Some c.deref-rule-items.result.now =
    ap (λ (g : Filter). chain_under g.chains number) (sym c.self.view_is)
    ∙ found_chain c.self.inside.rules.entries _ number (Some c.in-Some.chain.now) key c.in-Some.ensures.value
    ∙ ap Some (sym c.deref-rule-items.ensures.value) in
    let none = All-whole (λ (rule : Rule). RuleHolds rule c.args.call.now → ⊥) c.deref-rule-items.result.now c.loop-rule.rule-index
    c.loop-rule-test.false c.loop-rule.invariant in
    matches_by_chain f c.args.call.now c.deref-rule-items.result.now c.is_empty.result there
    (empty_or_any c.deref-rule-items.result.now c.args.call.now c.is_empty.result
    (c.is_empty.ensures ∙ ap (λ n. nat_eq n 0) (sym c.deref-rule-items.ensures.len)) none)
