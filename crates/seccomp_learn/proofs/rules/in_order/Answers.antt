use Rattle.std.proofs.Common.{◌≡◌, ◌++◌, ◌∷◌, [], List, arith, sym, subst, ap, ◌∙◌, append_assoc}
use Rattle.std.proofs.lemmas.Grind.{common_steps}
use Rattle.std.specs.List.Sorted.{IsPermutation}
use Rattle.std.specs.Vec.Iter.{into_iter_items}
use Rattle.seccompiler.specs.JsonTypes.{JsonRule}
use Rattle.seccomp_learn.proofs.Entries.{alike_more, alike_permuted}
use Rattle.seccomp_learn.proofs.rules.in_order.Goals as goal

pub loop-rule-preserved : goal.loop-rule-preserved
loop-rule-preserved c =
    let seen = c.loop-rule.yielded in
    record {
      all = subst (IsPermutation c.args.rules.items) (ap (λ (rest : List JsonRule). seen ++ rest) c.in-Some.ensures.steps.0
          ∙ sym (append_assoc seen (c.in-Some.rule ∷ []) _)) c.loop-rule.invariant.all;
      alike = alike_more seen c.loop-rule.left.items _ c.in-Some.rule c.loop-rule.invariant.alike c.in_ok-push_rule.ensures;
    }

pub returns : goal.returns
returns c =
    let seen = c.loop-rule.yielded in
    let whole : seen ++ into_iter_items c.loop-rule.rule-iterator ≡ seen = grind (arith, common_steps) in
    alike_permuted c.args.rules.items seen c.loop-rule.left.items
    (subst (IsPermutation c.args.rules.items) whole c.loop-rule.invariant.all) c.loop-rule.invariant.alike
