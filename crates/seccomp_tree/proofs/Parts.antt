-- Rulings one after the other, and rulings that are parted by what they compare: each value has those that are left there.
use Rattle.seccomp_tree.proofs.Common.{list_all, rules_length, sock_filter, cases_Bool, operator_part, Condition}
use Rattle.seccomp_tree.proofs.Common.{nat_tests, to_return, to_place, IsRecord, IsTested, MaskedEq, bit_and, goes_on, part_of, word_at}
use Rattle.seccomp_tree.proofs.Common.{AreMet, Ruling, Target, and_lt, and_zero_r, begins, joined, length, nat_eq, nat_lt, passes, Dword}
use Rattle.seccomp_tree.proofs.Common.{Equal, Grows, Leads, Qword, Starts, Returns, Takes, arith, false, holds, masks, stops, Give}
use Rattle.seccomp_tree.proofs.Common.{IsIn, List, None, Some, drop, load, mask, only, refl, true, zero, ◌&&◌, suc, sym, inl, inr, ap, ℕ}
use Rattle.seccomp_tree.proofs.Common.{At, ◌%◌, ◌*◌, ◌+◌, ◌-◌, ◌/◌, ◌<◌, ◌^◌, ◌∙◌, ◌∷◌, ◌≡◌, ◌≢◌, ◌≤◌, ◌++◌, [], word_fits, if◌then◌else◌}
use Rattle.seccomp_tree.proofs.Common.{take, get_or, alike, Bool, Option, SeccompCmpArgLen, SeccompCmpOp, compares, condition_length}
use Rattle.seccomp_tree.proofs.Common.{condition_steps, argument_at, run_steps}
use Rattle.seccomp_tree.proofs.Runs.{leads_grown, starts_last, starts_more, returns_more, grows_not, grows_one, grows_on, leads_by}
use Rattle.seccomp_tree.proofs.Runs.{tail_whole}
use Rattle.seccomp_tree.proofs.Meeting.{AreRules, first, holds_is, not_held, joined_none, mask_parts}
use Rattle.seccomp_tree.proofs.Trees.{load_run, low_word, high_word}
use Rattle.seccomp_tree.specs.Decisions.{conditions_length, conditions_steps}
use Rattle.seccomp_tree.specs.Parts.{AreAlone, AreInTurn, AreParted, IsParted, compared, left_at, met, met_steps, number, occurs}
use Rattle.seccomp_tree.specs.Parts.{half_of, in_front_of, low_half_by, part_byte, part_mask, part_value, rest_of}
use Rattle.seccomp_tree.specs.declared.parting.Part.{Part}
use Rattle.seccompiler.specs.declared.backend.SeccompCmpOp.TheVariants.{Eq}
use Rattle.std.proofs.lemmas.Nat.{and_mask}
use Rattle.std.proofs.lemmas.List.{take_more, take-append-drop, drop-take, length-take-le}

-- ---- one after the other

pub in_turn_none : {old : List sock_filter} {after : Target} → IsIn old after → AreInTurn [] old after after old
in_turn_none {old} inside = record {
  grows = grows_not old 0;
  inside = inside;
  leads = λ r rec w n lead a small. starts_more (n + 0) (omega arith) (lead a small);
}

-- a ruling in front of others
pub in_turn_more : {old mid new : List sock_filter} {after t u : Target} (q : List Condition) (v : ℕ) (rest : List Ruling)
    → AreInTurn rest old after t mid → AreMet q mid (Give v) t u new
    → AreInTurn (record { conditions = q; value = v } ∷ rest) old after u new
in_turn_more q v rest x h = record {
  grows = grows_on (conditions_length q + rules_length rest) x.grows h.grows (omega arith);
  inside = h.inside;
  leads = λ r rec w n lead a small. elim (cases_Bool (list_all (holds r) q)) [
    | inl is ↦ rw is (starts_more _ (omega arith)
        (h.leads r rec w n (rw is (λ b fits. leads_grown x.grows (rw is at (lead b fits)))) a small))
    | inr not ↦ rw not (starts_more _ (omega arith)
        (h.leads r rec w (n + met_steps rest r) (rw not (x.leads r rec w n (rw not at lead))) a small))
  ];
}

-- rulings in front of others: in so few steps they lead to the first that holds, or to those behind them
front_leads : {old mid : List sock_filter} {after t : Target} (front back : List Ruling) → AreInTurn back old after t mid → (r : List ℕ)
    → IsRecord r → (w n : ℕ) → Leads 0 old r (met (front ++ back) after r) w n
    → (m : ℕ) × (m + met_steps front r ≤ n + met_steps (front ++ back) r) × Leads 0 mid r (met front t r) w m
front_leads [] back x r rec w n lead = (n + met_steps back r, omega arith, x.leads r rec w n lead)
front_leads (d ∷ front) back x r rec w n lead = elim (cases_Bool (list_all (holds r) d.conditions)) [
  | inl is ↦ rw is (n, omega arith, λ a small. leads_grown x.grows (rw is at lead a small))
  | inr not ↦ let y = front_leads front back x r rec w n (rw not at lead) in rw not (y.0, omega (arith, y.1), y.2)
]

rules_append : (front back : List Ruling) → rules_length (front ++ back) ≡ rules_length front + rules_length back
rules_append [] back = omega arith
rules_append (d ∷ front) back = omega (arith, rules_append front back)

-- rulings that are written as one in front of others
pub in_turn_before : {old mid new : List sock_filter} {after t u : Target} (front back : List Ruling) → AreInTurn back old after t mid
    → AreInTurn front mid t u new → AreInTurn (front ++ back) old after u new
in_turn_before front back x h = record {
  grows = grows_on _ x.grows h.grows (omega (arith, rules_append front back));
  inside = h.inside;
  leads = λ r rec w n lead a small.
      let y = front_leads front back x r rec w n lead in starts_more _ (omega (arith, y.1)) (h.leads r rec w y.0 y.2 a small);
}

-- ---- parts

half_word : (l : SeccompCmpArgLen) (o : SeccompCmpOp) (r : List ℕ) (i : ℕ) → IsRecord r
    → half_of l o (argument_at r i) ≡ word_at r (part_byte l o + 8 * i)
half_word l o r i rec = grind (arith, low_word r i rec, high_word r i rec)

-- numbers are equal if both their halves are
same_halves : (x v : ℕ) → nat_eq x v ≡ (nat_eq (x / 2 ^ 32) (v / 2 ^ 32) && nat_eq (x % 2 ^ 32) (v % 2 ^ 32))
same_halves x v = grind (arith, nat_tests)

and_assoc : (a b c : Bool) → (a && b && c) ≡ (a && (b && c))
and_assoc a b c = elim (cases_Bool a) [ inl is ↦ rw is refl | inr not ↦ rw not refl ]

part_by : (l : SeccompCmpArgLen) (o : SeccompCmpOp) (i v w : ℕ) (r : List ℕ) (rest : List Condition) → half_of l o (argument_at r i) ≡ w
    → w < 2 ^ 32 → part_mask l o ≢ 0
    → (compares (operator_part l o) (part_of l (argument_at r i)) (part_of l v) && list_all (holds r) rest)
    ≡ (nat_eq (bit_and w (part_mask l o)) (part_value l o v) && list_all (holds r) (in_front_of (low_half_by l o i v) rest))
part_by Dword Eq i v w r rest is fits some =
    let same : bit_and w (2 ^ 32 - 1) ≡ argument_at r i % 2 ^ 32 = and_mask w 32 ∙ omega (arith, is, fits) in rw same refl
part_by Qword Eq i v w r rest is fits some =
    let x = argument_at r i in
    let same : bit_and w (2 ^ 32 - 1) ≡ x / 2 ^ 32 = and_mask w 32 ∙ omega (arith, is, fits) in
    let low : v % 2 ^ 32 % 2 ^ 32 ≡ v % 2 ^ 32 = omega arith in
    rw (same, low, same_halves x v)
    (and_assoc (nat_eq (x / 2 ^ 32) (v / 2 ^ 32)) (nat_eq (x % 2 ^ 32) (v % 2 ^ 32)) (list_all (holds r) rest))
part_by Dword (MaskedEq m) i v w r rest is fits some = rw (← is) refl
part_by Qword (MaskedEq m) i v w r rest is fits some = elim (cases_Bool (nat_lt m (2 ^ 32))) [
  | inl less ↦
      let x = argument_at r i in
      let high : m / 2 ^ 32 ≡ 0 = grind (arith, nat_tests, less) in
      let low : m % 2 ^ 32 ≡ m = grind (arith, nat_tests, less) in
      rw less (ap (λ b. b && list_all (holds r) rest)
      (mask_parts x v m ∙ rw (high, low, and_zero_r (x / 2 ^ 32), and_zero_r (v / 2 ^ 32), is) refl))
  | inr not ↦ absurd (some (rw not refl))
]
part_by l o i v w r rest is fits some = grind (arith, some)

-- rulings hold if the part has their value, and the rest of their conditions holds
part_is : (q : List Condition) (r : List ℕ) → IsRecord r → (compared q).mask ≢ 0
    → list_all (holds r) q ≡ (nat_eq (number (compared q) r) (compared q).value && list_all (holds r) (rest_of q))
part_is [] r rec some = absurd (some refl)
part_is (c ∷ rest) r rec some =
    part_by c.arg_len c.operator c.arg_index c.value _ r rest (half_word c.arg_len c.operator r c.arg_index rec) (word_fits r _ rec) some

cost_by : (l : SeccompCmpArgLen) (o : SeccompCmpOp) (i v : ℕ) (rest : List Condition)
    → (conditions_length (in_front_of (low_half_by l o i v) rest) + 5 ≤ condition_length l o + conditions_length rest)
    × (conditions_steps (in_front_of (low_half_by l o i v) rest) + 4 ≤ condition_steps l o + 1 + conditions_steps rest)
cost_by l o i v rest = grind arith

part_costs : (q : List Condition) → (compared q).mask ≢ 0
    → (conditions_length (rest_of q) + 5 ≤ conditions_length q) × (conditions_steps (rest_of q) + 4 ≤ conditions_steps q)
part_costs [] some = absurd (some refl)
part_costs (c ∷ rest) some = cost_by c.arg_len c.operator c.arg_index c.value rest

small_mask : (q : List Condition) → (compared q).mask < 2 ^ 32
small_mask [] = omega arith
small_mask (c ∷ rest) = by_mask c.arg_len c.operator
  where
    by_mask : (l : SeccompCmpArgLen) (o : SeccompCmpOp) → part_mask l o < 2 ^ 32
    by_mask l o = grind (arith, nat_tests)

pub some_mask : {p : Part} {d : Ruling} → IsParted p d → (compared d.conditions).mask ≢ 0
some_mask h z = h.some (sym h.mask ∙ z)

module _ (p : Part) {r : List ℕ} (rec : IsRecord r) where
  held : (d : Ruling) → IsParted p d
      → list_all (holds r) d.conditions ≡ (nat_eq (number p r) (compared d.conditions).value && list_all (holds r) (rest_of d.conditions))
  held d h = rw (← h.byte, ← h.mask) (part_is d.conditions r rec (some_mask h))

  -- those that are left where the part has a value decide as all do
  met_at : (g : List Ruling) (after : Target) → AreParted p g → met g after r ≡ met (left_at g (number p r)) after r
  met_at [] after h = refl
  met_at (d ∷ g) after h = elim (cases_Bool (nat_eq (number p r) (compared d.conditions).value)) [
    | inl is ↦ rw (held d h.0, is)
        (ap (λ t. if list_all (holds r) (rest_of d.conditions) then Give d.value else t) (met_at g after h.1))
    | inr not ↦ rw (held d h.0, not) (met_at g after h.1)
  ]

  steps_at : (g : List Ruling) → AreParted p g → met_steps (left_at g (number p r)) r ≤ met_steps g r
  steps_at [] h = omega arith
  steps_at (d ∷ g) h =
      let cost = (part_costs d.conditions (some_mask h.0)).1 in
      elim (cases_Bool (nat_eq (number p r) (compared d.conditions).value)) [
        | inl is ↦ rw (held d h.0, is) (grind (arith, cost, steps_at g h.1))
        | inr not ↦ rw (held d h.0, not) (omega (arith, steps_at g h.1))
      ]

  -- and take four steps less if one stands in front
  steps_first : (d : Ruling) (g : List Ruling) → AreParted p (d ∷ g) → nat_eq (number p r) (compared d.conditions).value ≡ true
      → met_steps (left_at (d ∷ g) (number p r)) r + 4 ≤ met_steps (d ∷ g) r
  steps_first d g h is =
      let cost = (part_costs d.conditions (some_mask h.0)).1 in rw (held d h.0, is) (grind (arith, cost, steps_at g h.1))

-- ---- the loop of `parted`

-- How many instructions rulings take at most, beside those for whose value there is one in front of them.
abbrev open_length : List Ruling → List Ruling → ℕ
open_length front [] = 0
open_length front (d ∷ back) =
    (if occurs front (compared d.conditions).value then 0 else 3 + conditions_length (rest_of d.conditions)) + open_length front back

occurs_more : (front : List Ruling) (d : Ruling) (v : ℕ)
    → occurs (front ++ d ∷ []) v ≡ (if occurs front v then true else nat_eq v (compared d.conditions).value)
occurs_more [] d v = grind arith
occurs_more (e ∷ front) d v = grind (arith, occurs_more front d v)

open_less : (front : List Ruling) (d : Ruling) (back : List Ruling) → open_length (front ++ d ∷ []) back ≤ open_length front back
open_less front d [] = omega arith
open_less front d (e ∷ back) = grind (arith, occurs_more front d (compared e.conditions).value, open_less front d back)

-- the rulings for a value that isn't in front are those that are left there
open_parts : (front : List Ruling) (d : Ruling) (back : List Ruling) → occurs front (compared d.conditions).value ≡ false
    → open_length (front ++ d ∷ []) back + rules_length (left_at back (compared d.conditions).value) ≤ open_length front back
open_parts front d [] not = omega arith
open_parts front d (e ∷ back) not =
    grind (arith, nat_tests, not, occurs_more front d (compared e.conditions).value, open_parts front d back not)

open_all : (p : Part) (front g : List Ruling) → AreParted p g → open_length front g + 2 * length g ≤ rules_length g
open_all p front [] h = omega arith
open_all p front (d ∷ g) h =
    grind (arith, (part_costs d.conditions (some_mask h.0)).0, open_all p front g h.1)

-- Tests of the number that a part has, which is in the accumulator, for the values of the rulings from a place on. Where it is a
-- value of those in front of them, nothing is said.
pub record Chain (p : Part) (front back : List Ruling) (old : List sock_filter) (after t : Target) (new : List sock_filter) : Type 0 where
  pub grows : Grows old (open_length front back) new
  pub inside : IsIn new t
  pub last : (d : Ruling) (rest : List Ruling) → back ≡ d ∷ rest → occurs front (compared d.conditions).value ≡ false
      → (t ≡ At (length new - 1)) × (1 ≤ length new)
  pub leads : (r : List ℕ) → IsRecord r → occurs front (number p r) ≡ false → (w n : ℕ) → Leads 0 old r (met back after r) w n
      → number p r < 2 ^ 32 → Starts 0 new r t (number p r) w (n + (met_steps back r - 2))

pub chain_none : {p : Part} {old : List sock_filter} {after : Target} (front : List Ruling) → IsIn old after
    → Chain p front [] old after after old
chain_none {p} {old} front inside = record {
  grows = grows_not old 0;
  inside = inside;
  last = λ d rest is not. absurd (cc);
  leads = λ r rec not w n lead small. starts_more _ (omega arith) (lead (number p r) small);
}

module _ {p : Part} (front : List Ruling) {back : List Ruling} {d : Ruling} {old mid : List sock_filter} {after t : Target}
    (h : Chain p (front ++ d ∷ []) back old after t mid) (parted : AreParted p (d ∷ back)) where
  -- where the part has another value, the others decide
  others : (r : List ℕ) → IsRecord r → occurs front (number p r) ≡ false → nat_eq (number p r) (compared d.conditions).value ≡ false
      → (w n : ℕ) → Leads 0 old r (met (d ∷ back) after r) w n → number p r < 2 ^ 32
      → Starts 0 mid r t (number p r) w (n + (met_steps back r - 2))
  others r rec not other w n lead small =
      h.leads r rec (occurs_more front d (number p r) ∙ rw not other) w n (rw (held p rec d parted.0, other) at lead) small

  -- it takes four steps less
  less : (r : List ℕ) → IsRecord r → nat_eq (number p r) (compared d.conditions).value ≡ false
      → met_steps back r + 4 ≤ met_steps (d ∷ back) r
  less r rec other =
      let cost = (part_costs d.conditions (some_mask parted.0)).1 in rw (held p rec d parted.0, other) (omega (arith, cost))

  pub chain_skip : occurs front (compared d.conditions).value ≡ true → Chain p front (d ∷ back) old after t mid
  chain_skip seen = record {
    grows = grows_on _ h.grows (grows_not mid 0) (omega (arith, open_less front d back));
    inside = h.inside;
    last = λ e rest is not. absurd (grind (arith, is, seen, not));
    leads = λ r rec not w n lead small.
        let other : nat_eq (number p r) (compared d.conditions).value ≡ false = grind (arith, nat_tests, seen, not) in
        starts_more _ (omega (arith, less r rec other)) (others r rec not other w n lead small);
  }

  pub chain_test : {made new : List sock_filter} {yes u : Target} → occurs front (compared d.conditions).value ≡ false
      → AreInTurn (left_at (d ∷ back) (compared d.conditions).value) mid after yes made
      → IsTested made Equal (compared d.conditions).value yes t u new → Chain p front (d ∷ back) old after u new
  chain_test {made} {new} {yes} {u} free x tested = record {
    grows =
        let own : nat_eq (compared d.conditions).value (compared d.conditions).value ≡ true = grind (arith, nat_tests) in
        grows_on {n = rules_length (left_at (d ∷ back) (compared d.conditions).value) + 3} _ h.grows
        (grows_on _ x.grows tested.grows (omega arith)) (rw (own, free) (omega (arith, open_parts front d back free)));
    inside = rw tested.last (omega (arith, tested.some));
    last = λ e rest is not. (tested.last, tested.some);
    leads = λ r rec not w n lead small. elim (cases_Bool (nat_eq (number p r) (compared d.conditions).value)) [
      | inl is ↦
          let at : number p r ≡ (compared d.conditions).value = grind (arith, nat_tests, is) in
          let lead' = rw (met_at p rec (d ∷ back) after parted, at) at lead in
          let steps = n + met_steps (left_at (d ∷ back) (compared d.conditions).value) r in
          let run = x.leads r rec w n (λ b fits. leads_grown h.grows (lead' b fits)) (number p r) small in
          let made_run = leads_grown (grows_not made 0) run in
          starts_more _ (omega (arith, rw at at (steps_first p rec d back parted is))) (leads_by (starts_last tested.last tested.some
          (tested.leads r (number p r) w steps small (rw is made_run))))
      | inr other ↦
          let made_run = leads_grown x.grows (others r rec not other w n lead small) in
          starts_more _ (omega (arith, less r rec other)) (leads_by (starts_last tested.last tested.some
          (tested.leads r (number p r) w (n + (met_steps back r - 2)) small (rw other made_run))))
    ];
  }

-- what starts at the last place takes no jump
starts_at : {code : List sock_filter} {r : List ℕ} {t : Target} {a w n : ℕ} → t ≡ At (length code - 1) → 1 ≤ length code
    → Starts 0 code r t a w n → (1 ≤ n) × Returns r code a w (n - 1)
starts_at is some (to_return w a n le) = absurd (cc)
starts_at {code} is some (to_place m w a k n inside h few) =
    let at : m + 1 ≡ length code = grind (arith, is, some) in
    let less : k + 1 ≤ n = grind (arith, nat_tests, few) in
    (omega (arith, less), rw (tail_whole code m at) at (returns_more (n - 1) (omega (arith, less)) h))

-- The number of a part is loaded, under its mask.
pub data IsLoaded (p : Part) (old new : List sock_filter) : Type 0 where
  whole : p.mask ≡ 0xffffffff → new ≡ load p.byte ∷ old → IsLoaded p old new
  masked : new ≡ load p.byte ∷ mask p.mask ∷ old → IsLoaded p old new

loaded_runs : {p : Part} {r : List ℕ} {old new : List sock_filter} {w n : ℕ} → IsRecord r → p.byte ≤ 60 → p.mask < 2 ^ 32
    → IsLoaded p old new → (number p r < 2 ^ 32 → Returns r old (number p r) w n) → (a : ℕ) → Returns r new a w (n + 2)
loaded_runs {p} {r} {old} {w = w} {n} rec index small (whole all is) run a =
    let word = word_at r p.byte in
    let fits = word_fits r p.byte rec in
    let same : number p r ≡ word = rw all (and_mask word 32 ∙ omega (arith, fits)) in
    rw is (returns_more (n + 2) (omega arith) (load_run r old p.byte a w n rec index
    (rw same at (run (omega (arith, fits, same))))))
loaded_runs {p} {r} {old} {w = w} {n} rec index small (masked is) run a =
    let word = word_at r p.byte in
    let fits : number p r < 2 ^ 32 = and_lt 32 word p.mask (word_fits r p.byte rec) small in
    rw is (returns_more (n + 2) (omega arith) (load_run r (mask p.mask ∷ old) p.byte a w (suc n) rec index
    (goes_on (mask p.mask) old word (number p r) w n 0 (λ i. masks refl (omega arith) refl) fits (run fits))))

loaded_long : {p : Part} {old new : List sock_filter} → IsLoaded p old new → Grows old 2 new × (1 ≤ length new)
loaded_long {p} {old} (whole all is) =
    rw is (grows_on 2 (grows_one old (load p.byte)) (grows_not _ 0) (omega arith), omega arith)
loaded_long {p} {old} (masked is) =
    rw is (grows_on 2 (grows_one old (mask p.mask)) (grows_one (mask p.mask ∷ old) (load p.byte)) (omega arith), omega arith)

pub chain_done : {p : Part} {back : List Ruling} {old mid new : List sock_filter} {after t : Target} → Chain p [] back old after t mid
    → AreParted p back → 1 ≤ length back → p.byte ≤ 60 → IsLoaded p mid new
    → AreInTurn back old after (At (length new - 1)) new
chain_done {back = []} h parted some index loaded = absurd (omega arith)
chain_done {p} {back = d ∷ back} {mid = mid} {new} h parted some index loaded = record {
  grows = grows_on _ h.grows (loaded_long loaded).0 (omega (arith, open_all p [] (d ∷ back) parted));
  inside = omega (arith, (loaded_long loaded).1);
  leads = λ r rec w n lead a fits.
      let last = h.last d back refl refl in
      let small : p.mask < 2 ^ 32 = rw (← parted.0.mask) (small_mask d.conditions) in
      let cost = (part_costs d.conditions (some_mask parted.0)).1 in
      let from = λ (few : number p r < 2 ^ 32). starts_at last.0 last.1 (h.leads r rec refl w n lead few) in
      let run = loaded_runs {n = n + (met_steps (d ∷ back) r - 2) - 1} rec index small loaded (λ few. (from few).1) a in
      let few : number p r < 2 ^ 32 = and_lt 32 _ p.mask (word_fits r p.byte rec) small in
      starts_more _ (omega (arith, cost, (from few).0)) (leads_by (starts_last refl (loaded_long loaded).1 run));
}

-- ---- rulings of no run, in front of what comes after them

-- They lead on as rulings do that take so many steps.
abbrev FrontLeads : List sock_filter → Target → ℕ → List Ruling → List Ruling → List ℕ → ℕ → Type 0
FrontLeads code after default front back r n =
    (m : ℕ) × (m + met_steps front r ≤ n) × Leads 0 code r (met front after r) (first default (front ++ back) r) (m + 1)

turn_takes : {code : List sock_filter} {after : Target} {n : ℕ} (default : ℕ) (front back : List Ruling) (r : List ℕ) → AreAlone front
    → ((m : ℕ) → Takes r 0 back m → Leads 0 code r after (first default back r) (m + 1)) → Takes r 0 (front ++ back) n
    → FrontLeads code after default front back r n
turn_takes {n = n} default [] back r alone next takes = (n, omega arith, next n takes)
turn_takes {code} {after} default (d ∷ front) back r alone next takes =
    enters (λ i t. turn_takes default front back r alone.1 next t) takes
  where
    by_case : {m : ℕ} (k : ℕ) → ((i : ℕ) → Takes r 0 (front ++ back) i → FrontLeads code after default front back r i)
        → Takes r 1 (d ∷ (front ++ back)) m → FrontLeads code after default (d ∷ front) back r (run_steps d.conditions k + m)
    by_case k rest (stops i e l is) =
        rw ((holds_is d.conditions r).1 is, alone.0) (0, omega arith, λ a small. to_return d.value a 1 (omega arith))
    by_case k rest (passes i e l m not takes) =
        let x = rest m takes in rw (not_held d.conditions r not, alone.0) (x.0, omega (arith, x.1), x.2)

    enters : {n : ℕ} → ((i : ℕ) → Takes r 0 (front ++ back) i → FrontLeads code after default front back r i)
        → Takes r 0 (d ∷ (front ++ back)) n → FrontLeads code after default (d ∷ front) back r n
    enters rest (begins e l k m le takes) = by_case k rest (rw (joined_none d.conditions (front ++ back) alone.0) at takes)

pub rules_in_turn : {old code : List sock_filter} {default : ℕ} {t u : Target} (new : List sock_filter) (front back : List Ruling)
    → AreAlone front → AreRules old back default t code → AreInTurn front code t u new → AreRules old (front ++ back) default u new
rules_in_turn {default = default} {t} {u} new front back alone x h = record {
  grows = grows_on _ x.grows h.grows (omega (arith, rules_append front back));
  inside = h.inside;
  leads = λ r rec n takes a small.
      let y = turn_takes default front back r alone (x.leads r rec) takes in
      starts_more _ (omega (arith, y.1)) (h.leads r rec _ (y.0 + 1) y.2 a small);
}

-- they are of no run with what is in front of them
alike_none : (o : Option Condition) → alike o None ≡ false
alike_none (Some c) = refl
alike_none None = refl

pub alone_joined : (q : List Condition) (front back : List Ruling) → AreAlone front → 1 ≤ length front → joined q (front ++ back) ≡ 0
alone_joined q [] back alone some = absurd (omega arith)
alone_joined q (d ∷ front) back alone some = rw (alone.0, alike_none (only q)) refl

-- the last of those in front is of no run
pub alone_last : (l : List Ruling) (n : ℕ) (d : Ruling) (rest : List Ruling) → 0 < n → n ≤ length l → drop (n - 1) l ≡ d ∷ rest
    → only d.conditions ≡ None → AreAlone (drop (length (take n l) - 1) (take n l))
alone_last l n d rest some le is none =
    let at : n ≡ n - 1 + 1 = omega (arith, some) in
    let last : drop (n - 1) (take n l) ≡ d ∷ [] =
    ap (λ k. drop (n - 1) (take k l)) at ∙ drop-take (n - 1) 1 l ∙ ap (λ k. take 1 k) is in
    rw (length-take-le n l le, last) (none, tt)

pub parted_drop : (p : Part) (n : ℕ) (g : List Ruling) → AreParted p g → AreParted p (drop n g)
parted_drop p (suc n) (d ∷ g) h = parted_drop p n g h.1
parted_drop p (suc n) [] h = tt
parted_drop p zero g h = h

-- ---- lists

-- at the end of what is in front there is an element
pub take_back : {A : Type 0} (l : List A) (n : ℕ) (x : A) → 0 < n → n ≤ length l → x ≡ get_or l (n - 1) x
    → take n l ≡ take (n - 1) l ++ x ∷ []
take_back l n x some le is = let at : n ≡ n - 1 + 1 = omega arith in
    ap (λ k. take k l) at ∙ take_more l (n - 1) x (omega arith) ∙ ap (λ y. take (n - 1) l ++ y ∷ []) (sym is)

pub drop_parts : {A : Type 0} (s n : ℕ) (l : List A) → s ≤ n → drop s (take n l) ++ drop n l ≡ drop s l
drop_parts zero n l le = take-append-drop n l
drop_parts (suc s) (suc n) (x ∷ l) le = drop_parts s n l (omega arith)
drop_parts (suc s) (suc n) [] le = refl
drop_parts (suc s) zero l le = absurd (omega arith)
