-- For `write_rule` and `write_rules`: what the rules of a chain do, each with its return behind it, one after another.
use Rattle.std.proofs.Common.{◌≡◌, ℕ, ◌+◌, ◌<◌, ◌≤◌, ◌^◌, List, [], ◌∷◌, ◌++◌, length, refl, sym, ap, ◌∙◌, subst, arith, length-append, ◌⊎◌}
use Rattle.std.proofs.Common.{inl, inr, ⊎_elim, get_or, take, drop}
use Rattle.std.specs.Prelude.{Any}
use Rattle.std.proofs.lemmas.List.Quantifiers.{Any-push}
use Rattle.std.proofs.lemmas.List.Sums.{sum_by_push, sum_by-append, sum_by-cons}
use Rattle.std.proofs.lemmas.List.{get_or_append_left, get_or_push, take_more, take_all}
use Rattle.std.proofs.lemmas.Bool.{cases_lt}
use Rattle.seccompiler.specs.declared.bpf.sock_filter.{sock_filter}
use Rattle.seccompiler.specs.Code.{give}
use Rattle.seccompiler.specs.Machine.{stays}
use Rattle.seccompiler.specs.Policy.{Rule, Chain, RuleHolds}
use Rattle.seccompiler.specs.Layout.{rule_length, rule_steps, rules_length}
use Rattle.seccompiler.specs.Pieces.{IsRuleCode}
use Rattle.seccompiler.specs.ChainCode.{IsRulesCode}
use Rattle.seccompiler.proofs.Blocks.{returns_front, returns_back, gives, block_join, block_from_closed, block_give}
use Rattle.seccompiler.proofs.Runs.{goes_shift, goes_on, goes_front, leads_front, leads_through, stands_second, leads_as, goes_as}
use Rattle.seccompiler.proofs.Runs.{stays_small}
use Rattle.seccompiler.proofs.Searches.{any_head, any_cases, any_nil}
use Rattle.seccompiler.proofs.Parts.{around}
use Rattle.seccompiler.proofs.Closed.{ranges_join, ranges_from}

-- the rules of an empty chain
pub rules_empty : (w : ℕ) → IsRulesCode [] w []
rules_empty w = record {
  long = refl;
  ranges = ranges_from [] tt;
  block = record { each = λ k i e. cc };
  enters = λ r rec a small. inr (
    (λ h. let past : h.0 < 0 = h.2 in absurd (omega arith)),
    record { count = 0; accumulator = a; goes = stays },
  );
  skips = λ r a small. stays;
}

-- the rule of a chain of one rule
any_only : (P : Rule → Type 0) (q : Rule) → Any P (q ∷ []) → P q
any_only P q any = ⊎_elim (λ here. here) (λ later. absurd (any_nil P later)) (any_cases P q [] any)

-- some rule of a chain with one rule more
any_front : (P : Rule → Type 0) (chain : Chain) (q : Rule) → Any P chain → Any P (chain ++ q ∷ [])
any_front P chain q h = grind (arith, length-append, get_or_append_left)

any_split : (P : Rule → Type 0) (chain : Chain) (q : Rule) → Any P (chain ++ q ∷ []) → (Any P chain) ⊎ (P q)
any_split P chain q h = grind (arith, length-append, get_or_append_left, get_or_push, cases_lt)

-- the code of a rule and its return
pub with_return : (q : Rule) (w : ℕ) (own : List sock_filter) → w < 2 ^ 32 → IsRuleCode q own → IsRulesCode (q ∷ []) w (own ++ give w ∷ [])
with_return q w own fits h = let p = own ++ give w ∷ [] in
    let len : length p ≡ length own + 1 = length-append own (give w ∷ []) in
    record {
      long = omega (arith, h.long);
      ranges = ranges_join own (give w ∷ []) h.ranges (ranges_from (give w ∷ []) (omega arith));
      block = block_join own (give w ∷ []) (length own + 2) 0 (length p + 1) (block_from_closed own (length own + 2) h.closed)
          (block_give w 0) (omega arith) (omega arith);
      enters = λ r rec a small.
          ⊎_elim (λ t. inl (
            any_head (λ x. RuleHolds x r) q [] t.0,
            returns_back own (give w ∷ []) r a w (leads_front own (give w ∷ []) r 0 a (length own) t.1) (0, gives w [] r _),
          ))
          (λ t. inr (
            λ any. t.0 (any_only (λ x. RuleHolds x r) q any),
            leads_as p r (leads_front own (give w ∷ []) r 0 a (length own + 1) t.1) refl (sym len),
          ))
          (h.enters r rec a small);
      skips = λ r a small.
          goes_as p r (goes_front own (give w ∷ []) r (h.skips r a small)) refl (omega arith) (omega arith);
    }

-- one rule more
rules_more : (chain : Chain) (w : ℕ) (code one : List sock_filter) (q : Rule) → IsRulesCode (q ∷ []) w one → IsRulesCode chain w code
    → IsRulesCode (chain ++ q ∷ []) w (code ++ one)
unfolding leads_front
rules_more chain w code one q last h = let p = code ++ one in
    let len : length p ≡ length code + length one = length-append code one in
    record {
      long = omega (arith, h.long, last.long, sum_by_push (λ rule. rule_length rule + 1) chain q);
      ranges = ranges_join code one h.ranges last.ranges;
      block = block_join code one (length code + 1) (length one + 1) (length p + 1) h.block last.block
          (omega (arith, last.long)) (omega arith);
      enters = λ r rec a small.
          ⊎_elim (λ t. inl (any_front (λ x. RuleHolds x r) chain q t.0, returns_front code one r 0 a w t.1))
          (λ t.
          let g = leads_front code one r 0 a (length code) t.1 in let fits = stays_small code r small t.1.goes in
          ⊎_elim (λ u. inl (Any-push (λ x. RuleHolds x r) chain q (any_only (λ x. RuleHolds x r) q u.0), returns_back code one r a w g u.1))
          (λ u. inr (
            λ any. ⊎_elim t.0 (λ h. u.0 (any_head (λ x. RuleHolds x r) q [] h)) (any_split (λ x. RuleHolds x r) chain q any),
            leads_as p r (leads_through code one r a (length one) t.1 u.1) refl (sym len),
          ))
          (last.enters r rec g.accumulator fits))
          (h.enters r rec a small);
      skips = λ r a small.
          let first = goes_front code one r (h.skips r a small) in
          let second = goes_shift p one r (length code) (stands_second code one) (last.skips r a small) in
          goes_as p r (goes_on p r first second) refl (omega (arith, sum_by_push rule_steps chain q)) (omega arith);
    }

-- a step of the loop over the rules
pub rules_step : (chain : Chain) (i w : ℕ) (q : Rule) (code one code' : List sock_filter) → i < length chain → q ≡ get_or chain i q
    → IsRulesCode (q ∷ []) w one → code' ≡ code ++ one → IsRulesCode (take i chain) w code → IsRulesCode (take (i + 1) chain) w code'
rules_step chain i w q code one code' within is rule ec h =
    let e : take (i + 1) chain ≡ take i chain ++ q ∷ [] = take_more chain i q within ∙ ap (λ x. take i chain ++ x ∷ []) (sym is) in
    rw (e, ec) (rules_more (take i chain) w code one q rule h)

-- the end of the loop
pub rules_all : (chain : Chain) (i w : ℕ) (code : List sock_filter) → length chain ≤ i
    → IsRulesCode (take i chain) w code → IsRulesCode chain w code
rules_all chain i w code past h = subst (λ x. IsRulesCode x w code) (take_all i chain past) h

-- there is room for a further rule
pub rules_room : (chain : Chain) (i start : ℕ) (q : Rule) → i < length chain → q ≡ get_or chain i q
    → start ≡ rules_length (take i chain) → start + rule_length q + 1 ≤ rules_length chain
rules_room chain i start q within is e = let f = λ (rule : Rule). rule_length rule + 1 in
    let whole = ap rules_length (around chain i q within is) in
    omega (arith, whole, sum_by-append f (take i chain) (q ∷ drop (i + 1) chain), sum_by-cons f q (drop (i + 1) chain))
