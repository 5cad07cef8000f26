use Rattle.std.proofs.Common.{◌≡◌, ◌∷◌, [], ◌++◌, ap, sym, ◌∙◌, append_assoc, option_map, List, Vec, Global, length, arith}
use Rattle.std.specs.Vec.Iter.{into_iter_items}
use Rattle.seccompiler.specs.declared.json.types.JsonCondition.{JsonCondition}
use Rattle.seccompiler.specs.JsonTypes.{JsonRule}
use Rattle.seccompiler.proofs.json.lent.owned.Goals as goal

pub loop-rule-preserved : goal.loop-rule-preserved
loop-rule-preserved c =
    let done = c.loop-rule.rules.items in
    let rest = into_iter_items c.next.new.self in
    let held = option_map (λ (v : Vec JsonCondition Global). v.items) c.rule.inside.conditions in
    let made : JsonRule = record { syscall = c.rule.inside.syscall.now; conditions = held } in
    let named : c.push_reserved.new.self.items ≡ done ++ made ∷ [] = c.push_reserved.ensures.items
    ∙ (λ i. done ++ record { syscall = c.in-Ok-from_str.ensures.ok i; conditions = held } ∷ []) in (
      ap (λ (all : List JsonRule). all ++ rest) named ∙ append_assoc done (made ∷ []) rest
          ∙ ap (λ (rule : JsonRule). done ++ rule ∷ rest) c.rule.view_is
          ∙ ap (λ (left : List JsonRule). done ++ left) (sym c.in-Some.ensures.steps.0) ∙ c.loop-rule.invariant.0,
      omega (
        arith,
        c.push_reserved.ensures.len,
        c.push_reserved.ensures.capacity,
        c.loop-rule.invariant.1,
        ap (λ (left : List JsonRule). length left) c.in-Some.ensures.steps.0,
      ),
    )
