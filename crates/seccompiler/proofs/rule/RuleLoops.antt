-- For `SeccompRule::code_len` and `SeccompRule::write`: the loops over the conditions of a rule: one counts its
-- instructions, one writes them from the end to the front.
use Rattle.std.proofs.Common.{◌≡◌, ℕ, suc, ◌+◌, ◌-◌, ◌*◌, ◌<◌, ◌≤◌, ◌^◌, List, [], ◌∷◌, ◌++◌, length, min, refl, sym, ap, ◌∙◌, subst, arith}
use Rattle.std.proofs.Common.{take, drop, get_or, true, false, nat_lt, length-drop, ⊎_elim}
use Rattle.std.proofs.lemmas.Bool.{cases_lt}
use Rattle.std.proofs.lemmas.Bool.Decides.{nat_tests}
use Rattle.std.proofs.lemmas.List.{take_more, take_all}
use Rattle.std.proofs.lemmas.List.Sums.{sum_by-append, sum_by-cons}
use Rattle.seccompiler.specs.declared.bpf.sock_filter.{sock_filter}
use Rattle.seccompiler.specs.Policy.{Condition, size_of}
use Rattle.seccompiler.specs.Layout.{greatest_offset, total_size, rule_length}
use Rattle.seccompiler.specs.ChainCode.{relay_code, relay_front, offset_behind}
use Rattle.seccompiler.specs.Pieces.{IsConditionCode, IsRuleCode}
use Rattle.seccompiler.proofs.rule.RuleCode.{size_small, total_more, Body, body_empty, body_more, body_relay, entry_code, rule_of}
use Rattle.seccompiler.proofs.Parts.{around}
use Rattle.seccompiler.proofs.rule.RelayCount.{Cutting, none, cutting_more, cutting_relay, relays_are, relays_so_far, relays_so_far_full}

-- What is needed of an offset at which a relay is or is not put.
relay_none : (o : ℕ) → o ≤ greatest_offset → (relay_front o ≡ []) × (offset_behind o ≡ o)
relay_none o near = let test : nat_lt greatest_offset o ≡ false = grind (arith, nat_tests) in (rw test refl, rw test refl)

relay_one : (o : ℕ) → greatest_offset < o → (relay_front o ≡ relay_code o) × (offset_behind o ≡ 1)
relay_one o far = let test : nat_lt greatest_offset o ≡ true = grind (arith, nat_tests) in (rw test refl, rw test refl)

-- What the writing loop has made: the code of the conditions so far, and how far the cut has come.
pub record Built (q : List Condition) (code : List sock_filter) (o : ℕ) : Type 0 where
  pub k : ℕ
  pub body : Body q code o k
  pub cutting : Cutting q o k

pub built_empty : Built [] [] 1
built_empty = record { k = 0; body = body_empty; cutting = none refl refl refl }

-- one condition more
built_more : (q : List Condition) (code own : List sock_filter) (o : ℕ) (c : Condition) → IsConditionCode c (offset_behind o) own
    → Built q code o → Built (q ++ c ∷ []) (own ++ (relay_front o ++ code)) (offset_behind o + size_of c)
built_more q code own o c one h = ⊎_elim
    (λ lt. let e = relay_none o (omega arith) in rw (e.0, e.1) record {
      k = h.k;
      body = body_more q code own o h.k c (omega arith) (rw e.1 at one) h.body;
      cutting = cutting_more q o h.k c (omega arith) h.cutting;
    })
    (λ far. let e = relay_one o far in rw (e.0, e.1) record {
      k = suc h.k;
      body = body_more q (relay_code o ++ code) own 1 (suc h.k) c (omega arith) (rw e.1 at one) (body_relay q code o h.k h.body);
      cutting = cutting_relay q o h.k c far h.cutting;
    })
    (cases_lt o (greatest_offset + 1))

-- there is room for what a further condition needs
room_for : (q rest : List Condition) (code : List sock_filter) (o free : ℕ) (c : Condition)
    → Built q code o → free + length code ≡ rule_length (q ++ c ∷ rest) → 2 + length (relay_front o) + size_of c ≤ free
room_for q rest code o free c h whole = let sizes = sum_by-append size_of q (c ∷ rest) in
    let more = sum_by-cons size_of c rest in ⊎_elim
    (λ lt. omega (arith, ap length (relay_none o (omega arith)).0, h.body.long, relays_so_far q (c ∷ rest) o h.k h.cutting))
    (λ far. omega (arith, ap length (relay_one o far).0, h.body.long, relays_so_far_full q rest o h.k c far h.cutting))
    (cases_lt o (greatest_offset + 1))

-- there is room for it at an index of the loop
pub room_at : (items : List Condition) (i : ℕ) (code : List sock_filter) (o free : ℕ) (c : Condition) → i < length items
    → c ≡ get_or items i c → Built (take i items) code o → free + length code ≡ rule_length items
    → 2 + length (relay_front o) + size_of c ≤ free
room_at items i code o free c within is h whole =
    room_for (take i items) (drop (i + 1) items) code o free c h (whole ∙ ap rule_length (around items i c within is))

-- a step of the loop
pub built_step : (items : List Condition) (i : ℕ) (c : Condition) (code own code' : List sock_filter) (o o' : ℕ) → i < length items
    → c ≡ get_or items i c → IsConditionCode c (offset_behind o) own → code' ≡ own ++ (relay_front o ++ code)
    → o' ≡ offset_behind o + size_of c → Built (take i items) code o → Built (take (i + 1) items) code' o'
built_step items i c code own code' o o' within is one ec eo h =
    let q : take (i + 1) items ≡ take i items ++ c ∷ [] = take_more items i c within ∙ ap (λ x. take i items ++ x ∷ []) (sym is) in
    rw (q, ec, eo) (built_more (take i items) code own o c one h)

-- the end of the loop
pub built_all : (items : List Condition) (i : ℕ) (code : List sock_filter) (o : ℕ) → length items ≤ i
    → Built (take i items) code o → Built items code o
built_all items i code o past h = subst (λ l. Built l code o) (take_all i items past) h

-- two places are left for the entry
pub entry_room : (q : List Condition) (code : List sock_filter) (o free : ℕ) → 1 ≤ length q
    → Built q code o → free + length code ≡ rule_length q → free ≡ 2
entry_room q code o free some h whole = omega (arith, h.body.long, relays_are q o h.k some h.cutting)

pub built_rule : (q : List Condition) (code whole : List sock_filter) (o : ℕ) → 1 ≤ length q
    → Built q code o → whole ≡ entry_code o ++ code → IsRuleCode q whole
built_rule q code whole o some h e = subst (λ l. IsRuleCode q l) (sym e) (rule_of q code o h.k (relays_are q o h.k some h.cutting) h.body)

-- What the counting loop has counted, up to the most that a machine's number holds.
pub record Counted (q : List Condition) (n o : ℕ) : Type 0 where
  pub k : ℕ
  pub cutting : Cutting q o k
  pub low : 1 ≤ o
  pub high : o ≤ 254
  pub count : n ≡ min (2 + total_size q + 3 * k) (2 ^ 64 - 1)

-- one condition more, near enough
pub counted_more : (q : List Condition) (c : Condition) (n n' o o' : ℕ) → o ≤ greatest_offset
    → n' ≡ min (n + size_of c) (2 ^ 64 - 1) → o' ≡ o + size_of c → Counted q n o → Counted (q ++ c ∷ []) n' o'
counted_more q c n n' o o' near en eo h = record {
  k = h.k;
  cutting = subst (λ d. Cutting (q ++ c ∷ []) d h.k) (sym eo) (cutting_more q o h.k c (omega arith) h.cutting);
  low = omega (arith, h.low);
  high = omega (arith, size_small c);
  count = omega (arith, en, h.count, total_more q c);
}

-- one condition more, behind a relay
pub counted_relay : (q : List Condition) (c : Condition) (n n' o o' : ℕ) → greatest_offset < o
    → n' ≡ min (min (n + 3) (2 ^ 64 - 1) + size_of c) (2 ^ 64 - 1) → o' ≡ 1 + size_of c → Counted q n o → Counted (q ++ c ∷ []) n' o'
counted_relay q c n n' o o' far en eo h = record {
  k = suc h.k;
  cutting = subst (λ d. Cutting (q ++ c ∷ []) d (suc h.k)) (sym eo) (cutting_relay q o h.k c far h.cutting);
  low = omega arith;
  high = omega (arith, size_small c);
  count = omega (arith, en, h.count, total_more q c);
}

pub counted_at : (items : List Condition) (i : ℕ) (c : Condition) (n o : ℕ) → i < length items
    → c ≡ get_or items i c → Counted (take i items ++ c ∷ []) n o → Counted (take (i + 1) items) n o
counted_at items i c n o within is h = grind (arith, take_more)

pub counted_rule : (items : List Condition) (i n o : ℕ) → 1 ≤ length items → length items ≤ i
    → Counted (take i items) n o → n ≡ min (rule_length items) (2 ^ 64 - 1)
counted_rule items i n o some past h = let all = subst (λ l. Counted l n o) (take_all i items past) h in
    omega (arith, all.count, relays_are items o all.k some all.cutting)

-- the code that is written so far lies in the part
pub end_within : (free : ℕ) (part : List sock_filter) (q : List Condition) → length part ≡ rule_length q
    → free + length (drop free part) ≡ rule_length q → free ≤ length part
end_within free part q long whole = omega (arith, length-drop free part)
