use Rattle.seccomp_tree.proofs.Common.{rules, ap, ◌≡◌, ◌∙◌, DecisionSet, is_at, lookup, nat_cmp, rulings_for}
use Rattle.seccomp_tree.proofs.Decided.{items_of, rulings_under}
use Rattle.seccomp_tree.proofs.decisions.Decisions.rulings_for.Goals as goal

pub returns : goal.returns
returns c =
    let entries = c.self.inside.calls.entries in
    let found : c.map_or.result.now ≡ items_of (lookup (is_at (nat_cmp c.args.number)) entries) = search rules in
    found ∙ rulings_under entries c.args.number ∙ ap (λ (x : DecisionSet). rulings_for x.calls c.args.number) c.self.view_is
