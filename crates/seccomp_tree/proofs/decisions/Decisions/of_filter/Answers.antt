use Rattle.seccomp_tree.proofs.{Common.AreCallNumbers, Common.decisions_of, Decided.next_number, Decided.calls_next, Decided.decide_as}
use Rattle.seccomp_tree.proofs.Common.{numbers_of, rulings_of, calls_of, int_cmp, Global, rules, Rule, refl, Vec, sym, ◌∙◌, ◌≡◌, ap}
use Rattle.std.{proofs.lemmas.Map.Made.keys_of-map_values, specs.List.Sorted.IsStrictlySortedBy}
use Rattle.seccomp_tree.proofs.decisions.Decisions.of_filter.Goals as goal

pub loop-number-init : goal.loop-number-init
loop-number-init c = rw (c.new-calls.ensures.empty, c.into_iter-number-iterator.ensures.into_iter_gives.0, ← c.rules-number-items.ensures)
    record { made = refl; keys = sym (keys_of-map_values _ c.rules-number-items.result.now.entries) }

pub overflow_cast-number : goal.overflow_cast-number
overflow_cast-number c =
    let n = next_number (rw c.in-Some.ensures.steps at c.loop-number.invariant) (search rules) in search (rules, n.1, n.2)

pub loop-number-preserved : goal.loop-number-preserved
loop-number-preserved c =
    let so_far = rw c.in-Some.ensures.steps at c.loop-number.invariant in
    let n = next_number so_far (search rules) in
    let sorted : IsStrictlySortedBy int_cmp (numbers_of c.args.filter.now.chains) =
    rw (← c.rules-number-items.ensures, keys_of-map_values (λ (v : Vec Rule Global). v.items) c.rules-number-items.result.now.entries)
    c.into_iter-number-iterator.ensures.into_iter_gives.5 in
    rw c.in_ok-insert.ensures.entries (calls_next c.into-match_value.result _ c.in-Some.number.now c.in-Some.chain.now
    c.in_ok-rulings_of.field-0 c.args.filter.now.chains c.next.new.self c.loop-number.calls.entries so_far sorted
    (search (rules, n.1, n.2)) (c.in_ok-rulings_of.ensures ∙ ap (rulings_of c.into-match_value.result) c.deref.ensures.value))

same : (c : goal.After-target_arch) → (record {
  target_arch = c.target_arch.result;
  defaults = c.in_ok-defaults.defaults.items;
  calls = calls_of c.loop-number.calls.entries;
}) ≡ decisions_of c.args.filter.now
same c = search rules

pub returns-clause-alike : goal.returns-clause-alike
returns-clause-alike c =
    let fit : AreCallNumbers (numbers_of c.args.filter.now.chains) = search rules in rw (same c) (decide_as c.args.filter.now fit)
