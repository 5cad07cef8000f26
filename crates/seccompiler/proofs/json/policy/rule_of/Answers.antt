use Rattle.std.proofs.Common.{◌≡◌, ℕ, zero, suc, true, false, ◌<◌, ◌≤◌, ◌++◌, ◌∷◌, [], map, take, ap, sym, ◌∙◌, refl, subst}
use Rattle.std.proofs.Common.{All, Any, List, length, arith}
use Rattle.std.proofs.lemmas.Bool.{true≢false}
use Rattle.std.proofs.lemmas.List.{map_more, length-map, nil_from_length, take_all}
use Rattle.std.proofs.lemmas.List.Elements.{All-more, Contains-get_or}
use Rattle.std.proofs.lemmas.Result.{err_from_is_err_and}
use Rattle.seccompiler.specs.JsonPolicyOf.{condition_of, index_above, empty_args}
use Rattle.seccompiler.specs.Policy.{Condition}
use Rattle.seccompiler.specs.declared.json.types.JsonCondition.{JsonCondition}
use Rattle.seccompiler.proofs.json.policy.rule_of.Goals as goal

pub loop-condition-preserved : goal.loop-condition-preserved
loop-condition-preserved c =
    let given = c.args.conditions.now in
    let place = c.loop-condition.condition-index in
    let done = map condition_of (take place given) in
    let of = c.in_ok-try_from.ensures in
    record {
      made = ◌∙◌ {A = List Condition} c.push_reserved.ensures.items
          (ap (λ conditions. conditions ++ c.in_ok-try_from.field-0 ∷ []) c.loop-condition.invariant.made
          ∙ ap (λ condition. done ++ condition ∷ []) of.1 ∙ sym (map_more condition_of given place _ c.loop-condition-test.true));
      indices = All-more (λ (c : JsonCondition). c.arg_index ≤ 5) given place _ c.loop-condition-test.true
          c.loop-condition.invariant.indices of.0;
      room = omega (arith, c.push_reserved.ensures.len, c.push_reserved.ensures.capacity, c.loop-condition.invariant.room);
    }

-- A number that is not at least 1 is 0.
no_more : (n : ℕ) → (1 ≤ n → false ≡ true) → n ≡ 0
no_more zero none = refl
no_more (suc n) none = absurd (true≢false (sym (none (omega arith))))

pub returns-in_err-try_from : goal.returns-in_err-try_from
returns-in_err-try_from c = let p = err_from_is_err_and c.from_residual.result c.from_residual.ensures.1 in
    let there = Contains-get_or c.args.conditions.now c.loop-condition.condition-index _ c.loop-condition-test.true in
    let above : Any (λ (c : JsonCondition). 5 < c.arg_index) c.args.conditions.now =
    (there.0, _, there.1, there.2, c.in_err-try_from.ensures.0) in
    rw (p.1, p.2, c.in_err-try_from.ensures.1) (index_above above refl, λ same. cc)

pub returns-in_err-new : goal.returns-in_err-new
returns-in_err-new c = let p = err_from_is_err_and c.from_residual-in_err-new.result c.from_residual-in_err-new.ensures.1 in
    let given = c.args.conditions.now in
    let long : length c.loop-condition.found.items ≡ length given = ap length c.loop-condition.invariant.made ∙ length-map _ condition_of
    ∙ ap length (take_all c.loop-condition.condition-index given c.loop-condition-test.false) in
    let none = nil_from_length given (sym long ∙ no_more _ c.in_err-new.ensures.succeeds.1) in
    rw (p.1, p.2, c.in_err-new.ensures.refused) (empty_args none refl, λ same. cc)

pub returns : goal.returns
returns c =
    let given = c.args.conditions.now in
    let all = take_all c.loop-condition.condition-index given c.loop-condition-test.false in
    let long : length c.loop-condition.found.items ≡ length given = ap length c.loop-condition.invariant.made ∙ length-map _ condition_of
    ∙ ap length all in (
      c.in_ok-new.ensures.made ∙ c.loop-condition.invariant.made ∙ ap (map condition_of) all,
      record {
        indices = subst (All (λ (c : JsonCondition). c.arg_index ≤ 5)) all c.loop-condition.invariant.indices;
        some = λ none. absurd (omega (arith, long, ap length none, c.in_ok-new.ensures.succeeds.0 refl));
      },
    )
