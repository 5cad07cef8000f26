use Rattle.seccomptool.proofs.Common.{◌∙◌, ◌≡◌, Any, Some, rules, subst, sym, true, true≢false}
use Rattle.seccomptool.specs.Learn.{IsArgument, added}
use Rattle.seccomptool.proofs.learn.arguments.push_argument.Goals as goal

pub returns : goal.returns
returns c =
    let asked : c.is_asked.result ≡ true = search rules in
    added c.asked_kept.result (sym c.is_asked.ensures ∙ asked)
    (λ any. true≢false (sym (c.has.ensures.1
    (subst (Any (IsArgument c.args.number (Some c.args.index))) (sym c.deref.ensures.value) any)) ∙ c.if-has.false))
    c.asked_kept.ensures c.in_ok-push.ensures.items
