use Rattle.std.proofs.Common.{◌≡◌, ◌++◌, ◌∷◌, [], Vec, Global, Option, None, Some, option_map, refl, ap, sym, take, ◌∙◌, arith}
use Rattle.std.specs.List.{each_same}
use Rattle.std.proofs.lemmas.List.{take_more}
use Rattle.seccompiler.specs.declared.json.types.JsonCondition.{JsonCondition}
use Rattle.seccompiler.specs.JsonTypes.{JsonRule, JsonFilter}
use Rattle.seccompiler.proofs.json.lent.lent.Goals as goal

pub loop-rule-preserved : goal.loop-rule-preserved
loop-rule-preserved c =
    let all = c.args.filter.now.rules in
    let k = c.loop-rule.rule-index in
    let whole = c.deref-rule-items.ensures.value ∙ ap (λ (f : JsonFilter). f.rules) c.filter.view_is in
    let copied = same_parts _ _ refl refl ∙ ap (λ (r : JsonRule). r.conditions) c.rule.view_is in
    let named = c.as_str.ensures.value ∙ ap (λ (r : JsonRule). r.syscall) c.rule.view_is in (
      c.push_reserved.ensures.items ∙ (λ i. c.loop-rule.invariant.0 i ++ record { syscall = named i; conditions = copied i } ∷ [])
          ∙ ap (λ (x : JsonRule). take k all ++ x ∷ []) (rw whole at c.rule-item.is)
          ∙ sym (take_more all k c.rule-item.result (rw whole at c.loop-rule-test.true)),
      omega (arith, c.push_reserved.ensures.len, c.push_reserved.ensures.capacity, c.loop-rule.invariant.1),
    )
  where
    same_parts : (a b : Option (Vec JsonCondition Global)) → c.rule.inside.conditions ≡ a → c.in-Ok-clone.conditions ≡ b
        → option_map (λ (v : Vec JsonCondition Global). v.items) b ≡ option_map (λ v. v.items) a
    same_parts None None p q = refl
    same_parts (Some x) (Some y) p q = ap Some (each_same x.items y.items (rw (p, q) at c.in-Ok-clone.ensures.cases).0)
    same_parts None (Some y) p q = absurd (rw (p, q) at c.in-Ok-clone.ensures.cases)
    same_parts (Some x) None p q = absurd (rw (p, q) at c.in-Ok-clone.ensures.cases)
