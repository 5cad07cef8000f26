-- Conditions and rulings as targets: conditions of choices and masks; and rulings from the last to the first, each put in front.
use Rattle.seccomp_tree.proofs.Common.{false_from_ne_true, get_or_read_under, condition_length, not_from_Decides, AreLaid}
use Rattle.seccomp_tree.proofs.Common.{length-take-le, length-append, compares, ◌++◌, take}
use Rattle.seccomp_tree.proofs.Common.{condition_steps, Decides-by_and, if◌then◌else◌, number_halves, operator_part, rules_length}
use Rattle.seccomp_tree.proofs.Common.{argument_at, mask_halves, part_length, sock_filter, cases_Bool, false≢true, part_steps}
use Rattle.seccomp_tree.proofs.Common.{Condition, RuleHolds, nat_tests, one_value, to_return, word_fits, IsAnswer, IsRecord, inl}
use Rattle.seccomp_tree.proofs.Common.{IsTested, MaskedEq, is_plain, list_all, Decides, bit_and, goes_on, nothing, part_of, AllIn}
use Rattle.seccomp_tree.proofs.Common.{word_at, AreMet, IsPart, Option, Ruling, Target, and_lt, begins, behind, get_or, joined, length, inr}
use Rattle.seccomp_tree.proofs.Common.{nat_eq, passes, Dword, Equal, First, Grows, Holds, IsMet, Leads, Qword, Takes, alike, arith, false}
use Rattle.seccomp_tree.proofs.Common.{holds, masks, stops, Bool, Give, IsIn, List, None, Some, Step, drop, here, load, mask, only, refl, ℕ}
use Rattle.seccomp_tree.proofs.Common.{true, zero, ◌&&◌, suc, sym, ◌%◌, ◌*◌, ◌+◌, ◌-◌, ◌/◌, ◌<◌, ◌^◌, ◌∙◌, ◌∷◌, ◌≡◌, ◌≤◌, ◌⊎◌, At, [], ap}
use Rattle.seccomp_tree.proofs.Runs.{leads_grown, starts_last, starts_more, grows_not, grows_one, grows_on, leads_by}
use Rattle.seccomp_tree.proofs.{Begun.single, Trees.high_word, Trees.load_run, Trees.low_word}
use Rattle.seccomp_tree.specs.Code.{AreAlike, AreFilled, AreOpenTo, AreRunSteps, IsAsked, IsRun, chosen, filled_by, meets, numbers_of}
use Rattle.seccomp_tree.proofs.Common.{cases_lt, found_in, AreSteps, IsPushed}
use Rattle.seccomp_tree.specs.Decisions.{conditions_length}
use Rattle.std.proofs.lemmas.List.{take-append-drop}

pub holds_is : (q : List Condition) (r : List ℕ) → Decides (list_all (holds r) q) (RuleHolds q r)
holds_is q r = Decides-by_and (holds r) (λ (c : Condition). Holds c r) (list_all (holds r))
    (λ c. (λ h. grind (arith, nat_tests, h), λ h. grind (arith, nat_tests, h))) refl (λ _ _. refl) q

pub rule_or_not : (q : List Condition) (r : List ℕ) → RuleHolds q r ⊎ (RuleHolds q r → ⊥)
rule_or_not q r = elim (cases_Bool (list_all (holds r) q)) [
  | inl is ↦ inl ((holds_is q r).0 is)
  | inr not ↦ inr (not_from_Decides _ (holds_is q r) not)
]

-- what is compared of an argument is a number of its length
part_fits : (c : Condition) (r : List ℕ) → IsRecord r → part_of c.arg_len (argument_at r c.arg_index) < numbers_of c.arg_len
part_fits c r rec =
    let byte = 16 + 8 * c.arg_index in
    grind (arith, number_halves r byte, word_fits r byte rec, word_fits r (byte + 4) rec)

-- a condition without a mask holds if its comparison does
plain_holds : (c : Condition) (r : List ℕ) → is_plain c.operator ≡ true
    → holds r c ≡ compares c.operator (part_of c.arg_len (argument_at r c.arg_index)) (part_of c.arg_len c.value)
plain_holds c r plain =
    let same : operator_part c.arg_len c.operator ≡ c.operator = grind (arith, plain) in rw same refl

pub met_by_steps : {old new : List sock_filter} {c : Condition} {fit unfit t : Target} {steps : List Step}
    → AreLaid c fit unfit steps
    → IsPart old c.arg_len (λ r. part_of c.arg_len (argument_at r c.arg_index)) steps t new → AreMet (c ∷ []) old fit unfit t new
met_by_steps {new = new} {c} {steps = steps} h part = record {
  grows =
      let few : part_length c.arg_len (length steps) ≤ part_length c.arg_len 3 = grind (arith, h.few) in
      grows_on _ part.grows (grows_not new 0) (omega (arith, cost.1, few));
  inside = part.inside;
  leads = λ r rec w n lead a small.
      let laid = h.each _ (part_fits c r rec) in
      let lead' = rw (plain_holds c r h.plain) at lead in
      starts_more _ (omega (arith, cost.0)) (leads_by (part.leads r rec w n 2 (omega (arith, h.few)) (rw laid (grind arith)) a small));
}
  where
    cost : (condition_steps c.arg_len c.operator ≡ part_steps c.arg_len 2)
        × (condition_length c.arg_len c.operator ≡ part_length c.arg_len 3)
    cost = grind (arith, h.plain)

-- ---- conditions joined by and

-- what is met at once
pub met_now : {test : List ℕ → Bool} {most steps : ℕ} {old : List sock_filter} {fit unfit t : Target} → IsIn old t
    → ((r : List ℕ) → (if test r then fit else unfit) ≡ t) → IsMet test most steps old fit unfit t old
met_now {most = most} {steps} {old} inside is = record {
  grows = grows_not old most;
  inside = inside;
  leads = λ r rec w n lead a small. starts_more (n + steps) (omega arith) (rw (is r) at (lead a small));
}

-- the second of two, which is written first, and the first: what takes both, and as much
pub met_both : {first second test : List ℕ → Bool} {m n s k most steps : ℕ} {old mid new : List sock_filter} {fit unfit t u : Target}
    → ((r : List ℕ) → IsRecord r → test r ≡ (first r && second r)) → m + n ≤ most → s + k ≤ steps
    → IsMet second m s old fit unfit t mid → IsMet first n k mid t unfit u new → IsMet test most steps old fit unfit u new
met_both {first} {s = s} {most = most} {steps} both room time h g = record {
  grows = grows_on most h.grows g.grows room;
  inside = g.inside;
  leads = λ r rec w n lead a small. elim (cases_Bool (first r)) [
    | inl is ↦ starts_more (n + steps) (omega (arith, time))
        (g.leads r rec w (n + s) (rw is (h.leads r rec w n (rw (both r rec, is) at lead))) a small)
    | inr not ↦ starts_more (n + steps) (omega (arith, time))
        (g.leads r rec w n (rw not (λ b fits. leads_grown h.grows (rw (both r rec, not) at (lead b fits)))) a small)
  ];
}

-- Whether the record's word at this byte has the value's bits under the mask.
abbrev pub has_bits : ℕ → ℕ → ℕ → List ℕ → Bool
has_bits byte m value r = nat_eq (bit_and (word_at r byte) m) (bit_and value m)

pub masked_some : {old mid new : List sock_filter} {fit unfit t : Target} (byte m value : ℕ) → byte ≤ 60 → m < 2 ^ 32
    → IsTested old Equal (bit_and value m) fit unfit t mid → new ≡ load byte ∷ mask m ∷ mid
    → IsMet (has_bits byte m value) 5 4 old fit unfit (At (length new - 1)) new
masked_some {old} {mid} byte m value low small tested is = rw is record {
  grows = grows_on 5 tested.grows (grows_on 2 (grows_one mid (mask m)) (grows_one (mask m ∷ mid) (load byte)) (omega arith)) (omega arith);
  inside = omega arith;
  leads = λ r rec w n lead a fits.
      let x = bit_and (word_at r byte) m in
      let x_small : x < 2 ^ 32 = and_lt 32 (word_at r byte) m (word_fits r byte rec) small in
      let run = tested.leads r x w n x_small (leads_grown (grows_not old 0) (lead x x_small)) in
      starts_more (n + 4) (omega arith) (leads_by (starts_last refl (omega arith) (load_run r (mask m ∷ mid) byte a w (suc (suc n)) rec low
      (goes_on (mask m) mid (word_at r byte) x w (suc n) 0 (λ p. masks refl (omega arith) refl) x_small run))));
}

-- numbers agree under a mask if their halves do
pub mask_parts : (x v m : ℕ) → nat_eq (bit_and x m) (bit_and v m)
    ≡ (nat_eq (bit_and (x / 2 ^ 32) (m / 2 ^ 32)) (bit_and (v / 2 ^ 32) (m / 2 ^ 32))
    && nat_eq (bit_and (x % 2 ^ 32) (m % 2 ^ 32)) (bit_and (v % 2 ^ 32) (m % 2 ^ 32)))
mask_parts x v m =
    let small = λ (n : ℕ). and_lt 32 (n % 2 ^ 32) (m % 2 ^ 32) (omega arith) (omega arith) in
    grind (arith, nat_tests, mask_halves x m, mask_halves v m, small x, small v)

pub masked_dword : {old new : List sock_filter} {fit unfit t : Target} (c : Condition) (m : ℕ) → c.arg_len ≡ Dword → c.operator ≡ MaskedEq m
    → IsMet (has_bits (16 + 8 * c.arg_index) (m % 2 ^ 32) (c.value % 2 ^ 32)) 5 4 old fit unfit t new → AreMet (c ∷ []) old fit unfit t new
masked_dword c m short is h =
    met_both {first = λ r. true} {n = 0} {k = 0} (λ r rec. rw (short, is, low_word r c.arg_index rec) (grind arith))
    (rw (short, is) (omega arith)) (rw (short, is) (omega arith)) h (met_now h.inside (λ r. refl))

pub masked_qword : {old mid new : List sock_filter} {fit unfit one t : Target} (c : Condition) (m : ℕ) → c.arg_len ≡ Qword
    → c.operator ≡ MaskedEq m → IsMet (has_bits (16 + 8 * c.arg_index) (m % 2 ^ 32) (c.value % 2 ^ 32)) 5 4 old fit unfit one mid
    → IsMet (has_bits (20 + 8 * c.arg_index) (m / 2 ^ 32) (c.value / 2 ^ 32)) 5 4 mid one unfit t new → AreMet (c ∷ []) old fit unfit t new
masked_qword c m long is low high =
    met_both (λ r rec. rw (long, is, ← high_word r c.arg_index rec, ← low_word r c.arg_index rec)
    (grind (arith, mask_parts (argument_at r c.arg_index) c.value m))) (rw (long, is) (omega arith)) (rw (long, is) (omega arith)) low high

-- The value of the first of the rulings that holds, or the default.
abbrev pub first : ℕ → List Ruling → List ℕ → ℕ
first default [] r = default
first default (d ∷ rest) r = if list_all (holds r) d.conditions then d.value else first default rest r

-- a rule that doesn't hold fails its test
pub not_held : (q : List Condition) (r : List ℕ) → (RuleHolds q r → ⊥) → list_all (holds r) q ≡ false
not_held q r not = false_from_ne_true (list_all (holds r) q) (λ is. not ((holds_is q r).0 is))

pub first_is : (default : ℕ) (rulings : List Ruling) (r : List ℕ) → First default r rulings (first default rulings r)
first_is default [] r = nothing
first_is default (d ∷ rest) r = elim (rule_or_not d.conditions r) [
  | inl h ↦ rw ((holds_is d.conditions r).1 h) (here d rest h)
  | inr not ↦ rw (not_held d.conditions r not) (behind d rest _ not (first_is default rest r))
]

pub first_alone : {default : ℕ} {r : List ℕ} {rulings : List Ruling} {w : ℕ} → First default r rulings w → w ≡ first default rulings r
first_alone {r = r} (here d rest h) = rw ((holds_is d.conditions r).1 h) refl
first_alone {r = r} (behind d rest w not h) = rw (not_held d.conditions r not) (first_alone h)
first_alone nothing = refl

-- the one value that answers is the word that is decided
pub one_first : (default v w : ℕ) (rulings : List Ruling) (r : List ℕ) → one_value default rulings ≡ Some v → First default r rulings w
    → w ≡ v
one_first default v w rulings r is h = grind (arith, nat_tests, is, h)

-- ---- what comes after

pub only_is : (q : List Condition) (c : Condition) → only q ≡ Some c → (q ≡ c ∷ []) × (is_plain c.operator ≡ true)
only_is q c e = grind (arith, e)

-- The conditions of the ruling in front of a place, or none.
abbrev pub in_front : List Ruling → ℕ → List Condition
in_front rulings zero = []
in_front rulings (suc n) = (get_or rulings n (record { conditions = []; value = 0 })).conditions

pub front_is : (rulings : List Ruling) (n : ℕ) (d : Ruling) → 0 < n → n ≤ length rulings → d ≡ get_or rulings (n - 1) d
    → in_front rulings n ≡ d.conditions
front_is rulings n d some le is =
    let at : n ≡ suc (n - 1) = omega arith in
    ap (in_front rulings) at
    ∙ ap (λ (x : Ruling). x.conditions) (sym (get_or_read_under rulings (n - 1) (length rulings) d _ is (omega arith) refl))

-- A target goes on as rulings do.
pub record AreRules (old : List sock_filter) (rulings : List Ruling) (default : ℕ) (t : Target) (new : List sock_filter) : Type 0 where
  pub grows : Grows old (rules_length rulings) new
  pub inside : IsIn new t
  pub leads : (r : List ℕ) → IsRecord r → (n : ℕ) → Takes r 0 rulings n → Leads 0 new r t (first default rulings r) (n + 1)

pub answered_one : {code : List sock_filter} (default v : ℕ) (rulings : List Ruling) → v < 2 ^ 32 → one_value default rulings ≡ Some v
    → IsAnswer code default rulings (Give v)
answered_one default v rulings fits is = record {
  inside = fits;
  one = λ w is'. ap Give (cc);
  leads = λ r rec w n first takes a small. rw (one_first default v w rulings r is first) (to_return v a (n + 1) (omega arith));
}

pub joined_none : (q : List Condition) (rulings : List Ruling) → only q ≡ None → joined q rulings ≡ 0
joined_none q [] own = refl
joined_none q (d ∷ rest) own = rw own refl

-- one that is entered, which goes on as those behind it if it doesn't hold
entered : {code : List sock_filter} {i n : ℕ} {t : Target} (default : ℕ) (d : Ruling) (rest : List Ruling) (r : List ℕ)
    → ((m : ℕ) → Takes r i rest m → Leads 0 code r t (first default rest r) (m + 1)) → Takes r (suc i) (d ∷ rest) n
    → Leads 0 code r (if list_all (holds r) d.conditions then Give d.value else t) (first default (d ∷ rest) r) (n + 1)
entered default d rest r others (stops i e l h) a small = rw ((holds_is d.conditions r).1 h) (to_return d.value a 1 (omega arith))
entered default d rest r others (passes i e l m not takes) a small = rw (not_held d.conditions r not) (others m takes a small)

-- ---- runs

-- conditions that compare the same are alike to the same ones
alike_on : (a b : Option Condition) (c : Condition) → alike a (Some c) ≡ true → alike a b ≡ true → alike b (Some c) ≡ true
alike_on (Some x) (Some y) c h k = grind (arith, nat_tests, h, k)
alike_on (Some x) None c h k = absurd (false≢true k)
alike_on None b c h k = absurd (false≢true h)

pub alike_self : (q : List Condition) (c : Condition) → only q ≡ Some c → alike (only q) (Some c) ≡ true
alike_self q c is = rw is (grind (arith, nat_tests))

pub joined_alike : (q : List Condition) (c : Condition) (rulings : List Ruling) → alike (only q) (Some c) ≡ true
    → AreAlike c (take (joined q rulings) rulings)
joined_alike q c [] h = tt
joined_alike q c (d ∷ rest) h = elim (cases_Bool (alike (only q) (only d.conditions))) [
  | inl is ↦
      let own = alike_on (only q) (only d.conditions) c h is in
      rw is (own, joined_alike d.conditions c rest own)
  | inr not ↦ rw not tt
]

pub joined_few : (q : List Condition) (rulings : List Ruling) → joined q rulings ≤ length rulings
joined_few q [] = omega arith
joined_few q (d ∷ rest) = grind (arith, joined_few d.conditions rest)

-- what the conditions are of a ruling that is alike
alike_is : (q : List Condition) (o : Option Condition) (c : Condition) → only q ≡ o → alike o (Some c) ≡ true
    → (x : Condition) × (q ≡ x ∷ []) × (is_plain x.operator ≡ true) × (x.arg_len ≡ c.arg_len) × (x.arg_index ≡ c.arg_index) × (o ≡ Some x)
alike_is q None c is h = absurd (false≢true h)
alike_is q (Some x) c is h =
    let own = only_is q x is in
    let same : (x.arg_index ≡ c.arg_index) × (x.arg_len ≡ c.arg_len) = grind (arith, nat_tests, h) in
    (x, own.0, own.1, same.1, same.0, refl)

-- so a ruling holds if its comparison does
meets_one : (c x : Condition) (q : List Condition) (o : Option Condition) (r : List ℕ) → q ≡ x ∷ [] → is_plain x.operator ≡ true
    → x.arg_len ≡ c.arg_len → x.arg_index ≡ c.arg_index → o ≡ Some x
    → list_all (holds r) q ≡ meets o (part_of c.arg_len (argument_at r c.arg_index))
meets_one c x q o r is plain long index own = rw (is, own, ← long, ← index) (grind (arith, plain_holds x r plain))

meets_is : (c : Condition) (d : Ruling) (r : List ℕ) → alike (only d.conditions) (Some c) ≡ true
    → list_all (holds r) d.conditions ≡ meets (only d.conditions) (part_of c.arg_len (argument_at r c.arg_index))
meets_is c d r h =
    let x = alike_is d.conditions (only d.conditions) c refl h in
    meets_one c x.0 d.conditions (only d.conditions) r x.1 x.2 x.3 x.4 x.5

-- a run takes as many instructions as its conditions by themselves
length_one : (c x : Condition) (q : List Condition) → q ≡ x ∷ [] → is_plain x.operator ≡ true → x.arg_len ≡ c.arg_len
    → conditions_length q ≡ part_length c.arg_len 3
length_one c x q is plain long = rw (is, ← long) (grind (arith, plain))

pub alike_length : (c : Condition) (run : List Ruling) → AreAlike c run → length run * part_length c.arg_len 3 ≤ rules_length run
alike_length c [] h = omega arith
alike_length c (d ∷ run) h =
    let x = alike_is d.conditions (only d.conditions) c refl h.0 in
    omega (arith, length_one c x.0 d.conditions x.1 x.2 x.3, alike_length c run h.1)

-- the rulings of a run, and those behind it
pub rules_parts : (n : ℕ) (rulings : List Ruling) → rules_length (take n rulings) + rules_length (drop n rulings) ≡ rules_length rulings
rules_parts (suc n) (d ∷ rulings) = omega (arith, rules_parts n rulings)
rules_parts (suc n) [] = refl
rules_parts zero rulings = omega arith

-- a run of rulings, by their comparisons, and what comes after
run_leads : {code : List sock_filter} (default : ℕ) (c : Condition) (run back : List Ruling) (after : Target) (r : List ℕ) → AreAlike c run
    → ((m : ℕ) → Takes r 0 back m → Leads 0 code r after (first default back r) (m + 1))
    → (n : ℕ) → Takes r (length run) (run ++ back) n
    → Leads 0 code r (filled_by (chosen run (part_of c.arg_len (argument_at r c.arg_index))) after) (first default (run ++ back) r) (n + 1)
run_leads default c [] back after r alike others n takes = others n takes
run_leads {code} default c (d ∷ run) back after r alike others n takes =
    rw (← meets_is c d r alike.0) (by_case (list_all (holds r) d.conditions) (entered default d (run ++ back) r
    (λ m t. run_leads default c run back after r alike.1 others m t) takes))
  where
    -- what is left if the first doesn't hold
    left : Target
    left = chosen run (part_of c.arg_len (argument_at r c.arg_index))

    by_case : (b : Bool)
        → Leads 0 code r (if b then Give d.value else filled_by left after) (first default (d ∷ (run ++ back)) r) (n + 1)
        → Leads 0 code r (filled_by (if b then Give d.value else left) after) (first default (d ∷ (run ++ back)) r) (n + 1)
    by_case true h = h
    by_case false h = h

-- a run in front of what comes after it
pub rules_settled : {old code : List sock_filter} {default : ℕ} {c : Condition} {after t : Target} (new : List sock_filter) (d : Ruling)
    (rest : List Ruling) → only d.conditions ≡ Some c → AreRules old (drop (joined d.conditions rest) rest) default after code
    → IsRun c (d ∷ take (joined d.conditions rest) rest) code after t new → AreRules old (d ∷ rest) default t new
rules_settled {old} {code} {default} {c} {after} {t} new d rest own x h = record {
  grows = grows_on (rules_length (d ∷ rest)) x.grows h.grows (omega (arith, rules_parts (joined d.conditions rest) rest));
  inside = h.inside;
  leads = leads;
}
  where
    long : length (take (joined d.conditions rest) rest) ≡ joined d.conditions rest
    long = length-take-le (joined d.conditions rest) rest (joined_few d.conditions rest)

    alike : AreAlike c (d ∷ take (joined d.conditions rest) rest)
    alike = (alike_self d.conditions c own, joined_alike d.conditions c rest (alike_self d.conditions c own))

    leads : (r : List ℕ) → IsRecord r → (n : ℕ) → Takes r 0 (d ∷ rest) n → Leads 0 new r t (first default (d ∷ rest) r) (n + 1)
    leads r rec n (begins e l k m le takes) a small =
        let whole = take-append-drop (joined d.conditions rest) rest in
        let behind = rw (long, whole) at (run_leads default c (d ∷ take (joined d.conditions rest) rest)
        (drop (joined d.conditions rest) rest) after r alike (x.leads r rec)) in
        rw own (starts_more _ (omega arith) (leads_by (h.leads r rec _ (m + 1) k (omega (arith, le, long)) (behind m takes) a small)))

-- ---- the steps of a run

pub chosen_parts : (front back : List Ruling) (a : ℕ) → chosen (front ++ back) a ≡ filled_by (chosen front a) (chosen back a)
chosen_parts [] back a = refl
chosen_parts (d ∷ front) back a = by_case (meets (only d.conditions) a) (chosen_parts front back a)
  where
    by_case : (b : Bool) → chosen (front ++ back) a ≡ filled_by (chosen front a) (chosen back a)
        → (if b then Give d.value else chosen (front ++ back) a) ≡ filled_by (if b then Give d.value else chosen front a) (chosen back a)
    by_case true h = refl
    by_case false h = h

pub alike_take : (c : Condition) (n : ℕ) (run : List Ruling) → AreAlike c run → AreAlike c (take n run)
alike_take c (suc n) (d ∷ run) h = (h.0, alike_take c n run h.1)
alike_take c (suc n) [] h = tt
alike_take c zero run h = tt

pub alike_drop : (c : Condition) (n : ℕ) (run : List Ruling) → AreAlike c run → AreAlike c (drop n run)
alike_drop c (suc n) (d ∷ run) h = alike_drop c n run h.1
alike_drop c (suc n) [] h = tt
alike_drop c zero run h = h

pub run_halves : (c : Condition) (n : ℕ) (run : List Ruling) (front back steps : List Step) → AreRunSteps c (take n run) front
    → AreRunSteps c (drop n run) back → AreFilled c.arg_len front back steps → AreRunSteps c run steps
run_halves c n run front back steps h k filled =
    let long : length (take n run) + length (drop n run) ≡ length run =
    sym (length-append (take n run) (drop n run)) ∙ ap length (take-append-drop n run) in record {
      are = filled.are;
      each = λ a lt. filled.each a lt
          ∙ rw (h.each a lt, k.each a lt, ← chosen_parts (take n run) (drop n run) a, take-append-drop n run) refl;
      small = λ a v lt is. grind (arith, filled.each a lt, h.small a v lt, k.small a v lt, is);
      few = omega (arith, filled.few, h.few, k.few, long);
    }

-- ---- values that ascend

-- So many rulings of a run are settled by steps over the numbers below the next one: where these are open, the others choose.
pub record Ascending (c : Condition) (run : List Ruling) (settled next : ℕ) (steps : List Step) : Type 0 where
  pub within : next ≤ numbers_of c.arg_len
  pub are : AreSteps next steps
  pub each : (a : ℕ) → a < next → chosen run a ≡ filled_by (found_in steps a) (chosen (drop settled run) a)
  pub behind : (a : ℕ) → next ≤ a → chosen run a ≡ chosen (drop settled run) a
  pub small : (a v : ℕ) → a < next → found_in steps a ≡ Give v → v < 2 ^ 32
  pub few : length steps ≤ 2 * settled

-- a ruling that asks for a number is met by it alone
asked_meets : (o : Option Condition) (c : Condition) (v a : ℕ) → IsAsked o v → alike o (Some c) ≡ true
    → (meets o a ≡ nat_eq a v) × (v < numbers_of c.arg_len)
asked_meets (Some x) c v a asked like =
    let same : x.arg_len ≡ c.arg_len = grind (arith, nat_tests, like) in
    (rw (asked.0, ← asked.1) refl, rw (← same) asked.2)
asked_meets None c v a asked like = absurd asked

module _ {c : Condition} {run : List Ruling} {i next v : ℕ} {d : Ruling} {steps opened more : List Step} (h : Ascending c run i next steps)
    (here : drop i run ≡ d ∷ drop (i + 1) run) (asked : IsAsked (only d.conditions) v) (like : alike (only d.conditions) (Some c) ≡ true)
    (fits : d.value < 2 ^ 32) (above : next ≤ v) (gap : AreOpenTo steps next v opened) (pushed : IsPushed opened v (Give d.value) more)
  where
    -- what is chosen of the ruling and those behind it
    choice : (a : ℕ) → chosen (drop i run) a ≡ (if nat_eq a v then Give d.value else chosen (drop (i + 1) run) a)
    choice a = ap (λ l. chosen l a) here
        ∙ ap (λ b. if b then Give d.value else chosen (drop (i + 1) run) a) ((asked_meets (only d.conditions) c v a asked like).0)

    -- what the steps have
    below_next : (a : ℕ) → a < next → found_in more a ≡ found_in steps a
    below_next a lt = pushed.below a (omega (arith, lt, above)) ∙ gap.below a lt

    pub ascending_on : Ascending c run (i + 1) (v + 1) more
    ascending_on = record {
      within = let lt = (asked_meets (only d.conditions) c v 0 asked like).1 in omega (arith, lt);
      are = pushed.are;
      each = λ a lt. elim (cases_lt a next) [
        | inl low ↦
            let other : nat_eq a v ≡ false = grind (arith, nat_tests, low, above) in
            rw (below_next a low) (h.each a low ∙ ap (filled_by (found_in steps a)) (choice a ∙ rw other refl))
        | inr le ↦ h.behind a le ∙ choice a ∙ elim (cases_lt a v) [
          | inl less ↦
              let other : nat_eq a v ≡ false = grind (arith, nat_tests, less) in
              rw (pushed.below a less, gap.gap a le less, other) refl
          | inr at ↦
              let is : a ≡ v = omega (arith, lt, at) in
              let own : nat_eq a v ≡ true = grind (arith, nat_tests, is) in
              rw (pushed.from a at, own) refl
        ]
      ];
      behind = λ a le. h.behind a (omega (arith, le, above)) ∙ choice a
          ∙ (let other : nat_eq a v ≡ false = grind (arith, nat_tests, le) in rw other refl);
      small = λ a w lt is. elim (cases_lt a next) [
        | inl low ↦ h.small a w low (sym (below_next a low) ∙ is)
        | inr le ↦ elim (cases_lt a v) [
          | inl less ↦ absurd (grind (arith, pushed.below a less, gap.gap a le less, is))
          | inr at ↦ grind (arith, pushed.from a at, is, fits)
        ]
      ];
      few = omega (arith, h.few, gap.few, pushed.few);
    }

-- what a run gives, or else what comes after it, is in the code
run_inside : (code : List sock_filter) (run : List Ruling) (a : ℕ) (after : Target) → IsIn code after
    → ((v : ℕ) → chosen run a ≡ Give v → v < 2 ^ 32) → IsIn code (filled_by (chosen run a) after)
run_inside code [] a after inside fits = inside
run_inside code (d ∷ run) a after inside fits = by_case (meets (only d.conditions) a) fits (run_inside code run a after inside)
  where
    by_case : (b : Bool) → ((v : ℕ) → (if b then Give d.value else chosen run a) ≡ Give v → v < 2 ^ 32)
        → (((v : ℕ) → chosen run a ≡ Give v → v < 2 ^ 32) → IsIn code (filled_by (chosen run a) after))
        → IsIn code (filled_by (if b then Give d.value else chosen run a) after)
    by_case true fits rest = fits d.value refl
    by_case false fits rest = rest fits

-- steps of a run, and for all other numbers what comes after it
module _ {c : Condition} {run : List Ruling} {after : Target} {inner steps : List Step} (h : AreRunSteps c run inner)
    (filled : AreFilled c.arg_len inner (single after) steps) where
  pub run_few : length steps ≤ 2 * length run + 1
  run_few = omega (arith, filled.few, h.few)

  pub run_all_in : (code : List sock_filter) → IsIn code after → AllIn code (numbers_of c.arg_len) steps
  run_all_in code inside a lt = rw (filled.each a lt, h.each a lt)
      (run_inside code run a after inside (λ v is. h.small a v lt (h.each a lt ∙ is)))

  pub is_run : {old new : List sock_filter} {t : Target} → 1 ≤ length run → AreAlike c run
      → IsPart old c.arg_len (λ r. part_of c.arg_len (argument_at r c.arg_index)) steps t new → IsRun c run old after t new
  is_run {old} {new} {t} some alike part = record {
    grows =
        let few : part_length c.arg_len (length steps) ≤ length run * part_length c.arg_len 3 = grind (arith, run_few, some) in
        grows_on _ part.grows (grows_not new 0) (omega (arith, few, alike_length c run alike));
    inside = part.inside;
    leads = λ r rec w n k le lead. part.leads r rec w n k (omega (arith, run_few, le))
        (rw (filled.each _ (part_fits c r rec), h.each _ (part_fits c r rec)) lead);
  }
