-- For `SeccompRule::code_len` and `SeccompRule::write`: what the code of a rule does, from its last condition to its entry.
use Rattle.std.proofs.Common.{◌≡◌, ℕ, suc, ◌+◌, ◌*◌, ◌<◌, ◌≤◌, ◌^◌, List, [], ◌∷◌, ◌++◌, length, refl, sym, arith, length-append, ⊎_elim}
use Rattle.std.proofs.Common.{inl, inr}
use Rattle.std.proofs.lemmas.List.Elements.{All-nil, All-push, All-pop}
use Rattle.std.proofs.lemmas.List.Sums.{sum_by_push}
use Rattle.std.specs.Prelude.{Some}
use Rattle.seccompiler.specs.declared.bpf.sock_filter.{sock_filter}
use Rattle.seccompiler.specs.Code.{jump}
use Rattle.seccompiler.specs.Machine.{IsRecord, Step, Goes, stays, then_step, AreInRange}
use Rattle.seccompiler.specs.Pieces.{inside_jump, IsClosed, Leads, Exits, IsConditionCode, IsRuleCode}
use Rattle.seccompiler.specs.Policy.{Condition, Holds, size_of, RuleHolds}
use Rattle.seccompiler.specs.Layout.{greatest_offset, total_size, relays}
use Rattle.seccompiler.specs.ChainCode.{relay_code}
use Rattle.seccompiler.proofs.Runs.{goes_shift, goes_on, stands_second, leads_as, goes_as, leads_second, stays_small, leads_through}
use Rattle.seccompiler.proofs.Runs.{leads_both, via}
use Rattle.seccompiler.proofs.Closed.{closed_join, closed_from, ranges_join, ranges_from}
use Rattle.seccompiler.proofs.Steps.{on_jump}

-- a condition takes at most 6 instructions
pub size_small : (c : Condition) → size_of c ≤ 6
size_small c = grind arith

pub total_more : (q : List Condition) (c : Condition) → total_size (q ++ c ∷ []) ≡ total_size q + size_of c
total_more q c = sum_by_push size_of q c

-- The code of the conditions so far, with k relays in it, whose failure exit is o places behind its first place.
pub record Body (q : List Condition) (code : List sock_filter) (o k : ℕ) : Type 0 where
  pub low : 1 ≤ o
  pub high : o ≤ 254
  pub near : o ≤ length code + 1
  pub long : length code ≡ total_size q + 3 * k
  pub ranges : AreInRange code
  pub closed : IsClosed code (length code + 2)
  pub enters : (r : List ℕ) → IsRecord r → (a : ℕ) → a < 2 ^ 32 → Exits code 1 r a (RuleHolds q r)
  pub fails : (r : List ℕ) (a : ℕ) → a < 2 ^ 32 → Leads code r o a (length code + 1)
  pub skips : (r : List ℕ) (a : ℕ) → a < 2 ^ 32 → Goes code r (o + 1) a k (length code + 2) a

pub body_empty : Body [] [] 1 0
body_empty = record {
  low = omega arith;
  high = omega arith;
  near = omega arith;
  long = refl;
  ranges = ranges_from [] tt;
  closed = closed_from [] 2 tt;
  enters = λ r rec a small. inl (All-nil _, record { count = 0; accumulator = a; goes = stays });
  fails = λ r a small. record { count = 0; accumulator = a; goes = stays };
  skips = λ r a small. stays;
}

-- one condition more, in front
pub body_more : (q : List Condition) (code own : List sock_filter) (o k : ℕ) (c : Condition)
    → o ≤ greatest_offset → IsConditionCode c o own → Body q code o k → Body (q ++ c ∷ []) (own ++ code) (o + size_of c) k
body_more q code own o k c room one body = let size : length own ≡ size_of c = one.long in
    let small_size : size_of c ≤ 6 = size_small c in let len : length (own ++ code) ≡ length own + length code = length-append own code in
    let to_end : length own + (length code + 1) ≡ length (own ++ code) + 1 = omega arith in
    let pop = λ (r : List ℕ). All-pop (λ x. Holds x r) (q ++ c ∷ []) q (Some c) refl in
    record {
      low = omega (arith, body.low);
      high = omega arith;
      near = omega (arith, body.near);
      long = omega (arith, body.long, total_more q c);
      ranges = ranges_join own code one.ranges body.ranges;
      closed = closed_join own code (length own + o) (length code + 2) (length (own ++ code) + 2) one.closed body.closed
          (omega (arith, body.near)) (omega arith);
      enters = λ r rec a small.
          ⊎_elim (λ t.
          let g = t.1 in let fits = stays_small own r small g.goes in ⊎_elim
          (λ u. inl (
            All-push (λ x. Holds x r) q c u.0 t.0,
            leads_as (own ++ code) r (leads_through own code r a (length code) g u.1) refl (sym len),
          ))
          (λ u. inr (λ h. u.0 (pop r h).0, leads_as (own ++ code) r (leads_through own code r a (length code + 1) g u.1) refl to_end))
          (body.enters r rec g.accumulator fits))
          (λ t. inr (
            λ h. t.0 (pop r h).1,
            leads_as (own ++ code) r (leads_both own code r a o (length code + 1) small t.1 (body.fails r)) refl to_end,
          ))
          (one.enters r rec a small);
      fails = λ r a small.
          leads_as (own ++ code) r (leads_second own code r o a (length code + 1) (body.fails r a small)) (omega arith) to_end;
      skips = λ r a small. goes_as (own ++ code) r (goes_shift (own ++ code) code r (length own) (stands_second own code)
          (body.skips r a small)) (omega arith) refl (omega arith);
    }

-- code to which jumps in front of it lead has the exits that it had
exits_behind : (front code : List sock_filter) (r : List ℕ) (a : ℕ) (fact : Type 0) → Step (front ++ code) r 0 a (length front) a
    → Exits code 1 r a fact → Exits (front ++ code) 1 r a fact
exits_behind front code r a fact step exits = let len = length-append front code in
    let at : (y y' : ℕ) → length front + y ≡ y' → Leads code r 0 a y → Leads (front ++ code) r 0 a y' =
    λ y y' e h. via (front ++ code) r 0 a (length front) y' step
    (leads_as (front ++ code) r (leads_second front code r 0 a y h) (omega arith) e) in
    ⊎_elim (λ t. inl (t.0, at (length code) _ (sym len) t.1))
    (λ t. inr (t.0, at (length code + 1) _ (omega arith) t.1))
    exits

-- a relay in front
pub body_relay : (q : List Condition) (code : List sock_filter) (o k : ℕ) → Body q code o k → Body q (relay_code o ++ code) 1 (suc k)
body_relay q code o k body = let p = relay_code o ++ code in
    let len : length p ≡ 3 + length code = length-append (relay_code o) code in
    record {
      low = omega arith;
      high = omega arith;
      near = omega arith;
      long = omega (arith, body.long);
      ranges = ranges_join (relay_code o) code (ranges_from (relay_code o) (omega (arith, body.high))) body.ranges;
      closed = closed_join (relay_code o) code (length p + 2) (length code + 2) (length p + 2)
          (closed_from (relay_code o) (length p + 2) (grind (arith, inside_jump, body.near))) body.closed (omega arith) (omega arith);
      enters = λ r rec a small.
          exits_behind (relay_code o) code r a (RuleHolds q r) (on_jump p r 0 a 2 refl small) (body.enters r rec a small);
      fails = λ r a small.
          via p r 1 a _ _ (on_jump p r 1 a (o + 1) refl small)
          (leads_as p r (leads_second (relay_code o) code r o a (length code + 1) (body.fails r a small)) (omega arith) (omega arith));
      skips = λ r a small. goes_as p r (goes_on p r (then_step stays (on_jump p r 2 a (o + 1) refl small))
          (goes_shift p code r 3 (stands_second (relay_code o) code) (body.skips r a small))) refl (omega arith) (omega arith);
    }

-- The two jumps in front of a rule whose failure exit is o places behind them.
abbrev pub entry_code : ℕ → List sock_filter
entry_code o = jump 1 ∷ jump (o + 1) ∷ []

-- the entry in front: the code of the rule
pub rule_of : (q : List Condition) (code : List sock_filter) (o k : ℕ) → k ≡ relays q
    → Body q code o k → IsRuleCode q (entry_code o ++ code)
rule_of q code o k is_k body = let p = entry_code o ++ code in
    let len : length p ≡ 2 + length code = length-append (entry_code o) code in
    record {
      long = omega (arith, body.long);
      ranges = ranges_join (entry_code o) code (ranges_from (entry_code o) (omega (arith, body.high))) body.ranges;
      closed = closed_join (entry_code o) code (length p + 2) (length code + 2) (length p + 2)
          (closed_from (entry_code o) (length p + 2) (grind (arith, inside_jump, body.near))) body.closed (omega arith) (omega arith);
      enters = λ r rec a small.
          exits_behind (entry_code o) code r a (RuleHolds q r) (on_jump p r 0 a 1 refl small) (body.enters r rec a small);
      skips = λ r a small. goes_as p r (goes_on p r (then_step stays (on_jump p r 1 a (o + 1) refl small))
          (goes_shift p code r 2 (stands_second (entry_code o) code) (body.skips r a small))) refl (omega arith) (omega arith);
    }
