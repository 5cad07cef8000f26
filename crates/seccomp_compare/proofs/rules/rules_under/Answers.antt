use Rattle.std.proofs.Common.{rules, ◌≡◌, [], Some, None, Bor, List, map, ap, sym, ◌∙◌, w64}
use mir.Val.{SFits}
use Rattle.std.proofs.lemmas.Int.{to_z-of_z}
use Rattle.std.proofs.lemmas.Result.{IfOk-weaker}
use Rattle.seccompiler.specs.Policy.{chain_under}
use Rattle.seccompiler.specs.declared.condition.SeccompCondition.{SeccompCondition}
use Rattle.seccomp_compare.specs.Rules.{rules_of}
use Rattle.seccomp_compare.proofs.RulesUnder.{found_chain, no_items, of_some, some_items}
use Rattle.seccomp_compare.proofs.rules.rules_under.Goals as goal

pub returns-in_default : goal.returns-in_default
returns-in_default c =
    let f = c.args.filter.now in
    let number = c.args.number in
    let fits : SFits w64 c.from.result = search rules in
    let key = to_z-of_z w64 c.from.result fits ∙ c.from.ensures in
    let none : chain_under f.chains number ≡ None = ap (λ chains. chain_under chains number) (sym c.rules.ensures)
    ∙ found_chain c.rules.result.now.entries _ number None key c.in_default.ensures.value in
    let now = λ (q : Bor (List SeccompCondition)). q.now in
    ap (map now) c.new.ensures.items ∙ sym (ap rules_of none)

pub returns-then-is_empty : goal.returns-then-is_empty
returns-then-is_empty c =
    let f = c.args.filter.now in
    let number = c.args.number in
    let chain = c.in-Some.chain.now in
    let fits : SFits w64 c.from.result = search rules in
    let key = to_z-of_z w64 c.from.result fits ∙ c.from.ensures in
    let empty : chain.items ≡ [] = no_items chain.items chain.len c.is_empty.result chain.ok.0 c.is_empty.ensures c.if-is_empty.true in
    let there : chain_under f.chains number ≡ Some [] = ap (λ chains. chain_under chains number) (sym c.rules.ensures)
    ∙ found_chain c.rules.result.now.entries _ number (Some chain) key c.in-Some.ensures.value ∙ ap Some empty in
    let now = λ (q : Bor (List SeccompCondition)). q.now in
    ap (map now) c.in_ok-vec.ensures.items ∙ sym (ap rules_of there)

pub returns : goal.returns
returns c =
    let f = c.args.filter.now in
    let number = c.args.number in
    let chain = c.in-Some.chain.now in
    let fits : SFits w64 c.from.result = search rules in
    let key = to_z-of_z w64 c.from.result fits ∙ c.from.ensures in
    let there : chain_under f.chains number ≡ Some chain.items = ap (λ chains. chain_under chains number) (sym c.rules.ensures)
    ∙ found_chain c.rules.result.now.entries _ number (Some chain) key c.in-Some.ensures.value in
    let some = some_items chain.items chain.len c.is_empty.result chain.ok.0 c.is_empty.ensures c.if-is_empty.false in
    IfOk-weaker c.rules_in.result _ _ (λ rules all. all ∙ c.deref.ensures.value ∙ sym (ap rules_of there ∙ of_some chain.items some))
    c.rules_in.ensures
