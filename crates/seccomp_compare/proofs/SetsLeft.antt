-- For `covered`: sets of calls that are left, and how many bits are open in them.
use Rattle.std.proofs.Common.{◌≡◌, ℕ, zero, suc, ◌+◌, ◌-◌, ◌*◌, ◌/◌, ◌%◌, ◌<◌, ◌≤◌, ◌^◌, List, [], ◌∷◌, ◌++◌, length, All, Some}
use Rattle.std.proofs.Common.{sym, ap, ◌∙◌, subst, refl, arith, ◌⊎◌, inl, inr, ⊎_elim, get_or, Bool, true, false, ◌==◌, if◌then◌else◌}
use Rattle.std.proofs.Math.ListN.{set}
use Rattle.std.proofs.Math.Nat.{pow-suc}
use Rattle.std.specs.Prelude.{Any, bit_or, nat_eq, slice_get}
use Rattle.std.specs.List.{list_any, sum_by}
use Rattle.std.specs.Int.{bit_at}
use Rattle.std.proofs.lemmas.Bool.Decides.{nat_tests}
use Rattle.std.proofs.lemmas.Bool.{cases_eq, eq-eqb, false≢true}
use Rattle.std.proofs.lemmas.List.{get_or-set_same, get_or-set_other, length-set}
use Rattle.std.proofs.lemmas.List.Elements.{All-nil, All-pop, All-push}
use Rattle.std.proofs.lemmas.List.Quantifiers.{Any-push}
use Rattle.std.proofs.lemmas.List.Sums.{sum_by-append}
use Rattle.std.proofs.lemmas.Nat.{pow_pos}
use Rattle.std.proofs.lemmas.Nat.Bits.{bit_at_or, bit_at-lt, bit_at-pow_same, bit_at-pow_other}
use Rattle.std.proofs.lemmas.Option.{slice_get-get_or, get_or_from_slice_get}
use Rattle.seccompiler.specs.declared.backend.TargetArch.{TargetArch}
use Rattle.seccompiler.specs.Machine.{IsRecord, argument_at}
use Rattle.seccompiler.specs.Policy.{Rule, RuleHolds}
use Rattle.seccomp_compare.specs.Cover.{AddsHalves, IsCallOf, IsOpenAt, KnowsFixed, SomeHolds}
use Rattle.seccomp_compare.specs.Cover.{compares, count_below, fixes, is_open, open_bits}
use Rattle.seccomp_compare.specs.Known.{AreKept, HasKnown}
use Rattle.seccomp_compare.specs.declared.known.Known.{Known}
use Rattle.seccomp_compare.proofs.KnownBits.{any_cases, any_left, kept_set, known_set}

-- ---- counts

count_same : (p q : ℕ → Bool) (n : ℕ) → ((m : ℕ) → m < n → p m ≡ q m) → count_below p n ≡ count_below q n
unfolding count_below
count_same p q zero same = refl
count_same p q (suc n) same =
    let rest = count_same p q n (λ m lt. same m (omega (arith, lt))) in
    let here = same n (omega arith) in
    rw here (omega (arith, rest))

-- a number that passes one test, and not the other
count_flip : (p q : ℕ → Bool) (n k : ℕ) → k < n → p k ≡ true → q k ≡ false → ((m : ℕ) → (m ≡ k → ⊥) → p m ≡ q m)
    → count_below p n ≡ suc (count_below q n)
unfolding count_below
count_flip p q zero k lt one none same = absurd (omega (arith, lt))
count_flip p q (suc n) k lt one none same =
    ⊎_elim
    (λ here.
    let rest = count_same p q n (λ m below. same m (λ e. omega (arith, e, here, below))) in
    let a : p n ≡ true = ap p here ∙ one in
    let b : q n ≡ false = ap q here ∙ none in
    rw (a, b) (omega (arith, rest)))
    (λ other.
    let rest = count_flip p q n k (omega (arith, lt, other)) one none same in
    let e = same n other in
    rw e (omega (arith, rest)))
    (cases_eq n k)

one_each : (a b : Bool) → (a ≡ true → b ≡ true) → (if a then 1 else 0) ≤ (if b then 1 else 0)
one_each true true h = omega arith
one_each true false h = absurd (false≢true (h refl))
one_each false b h = omega arith

count_le : (p q : ℕ → Bool) (n : ℕ) → ((m : ℕ) → m < n → p m ≡ true → q m ≡ true) → count_below p n ≤ count_below q n
unfolding count_below
count_le p q zero each = omega arith
count_le p q (suc n) each =
    let here = one_each (p n) (q n) (each n (omega arith)) in
    let rest = count_le p q n (λ m lt. each m (omega (arith, lt))) in
    omega (arith, here, rest)

-- ---- open bits

abbrev pub mask_at : List Known → ℕ → ℕ
mask_at part i = (get_or part i (record { mask = 0; value = 0 })).mask

-- whether bit j of argument i isn't known, and one of the rules compares it
abbrev pub opens_at : List Rule → List Known → (i j : ℕ) → Bool
opens_at rules part i j = if nat_eq (bit_at (mask_at part i) j) 1 then false else list_any (list_any (compares i j)) rules

abbrev pub opened : List Rule → List Known → ℕ
opened rules part = count_below (λ k. opens_at rules part (k / 64) (k % 64)) 384

module _ (rules : List Rule) (part : List Known) (i j : ℕ) (more : Known) (is : IsOpenAt part rules i j)
    (mask : more.mask ≡ bit_or is.unknown.known.mask (2 ^ j)) where
  known : mask_at part i ≡ is.unknown.known.mask
  known = ap (λ (k : Known). k.mask) (get_or_from_slice_get part i is.unknown.known (record { mask = 0; value = 0 }) is.unknown.there)

  new : i < length part → mask_at (set part i more) i ≡ more.mask
  new within = ap (λ (k : Known). k.mask) (get_or-set_same part i more (record { mask = 0; value = 0 }) within)

  others : (a b : ℕ) → i < length part → (a ≡ i → b ≡ j → ⊥) → bit_at (mask_at part a) b ≡ bit_at (mask_at (set part i more) a) b
  others a b within apart =
      ⊎_elim
      (λ here.
      let at_a : mask_at part a ≡ is.unknown.known.mask = ap (mask_at part) here ∙ known in
      let new_a : mask_at (set part i more) a ≡ bit_or is.unknown.known.mask (2 ^ j) =
      ap (mask_at (set part i more)) here ∙ new within ∙ mask in
      let bits = bit_at_or is.unknown.known.mask (2 ^ j) b in
      let zero = bit_at-pow_other j b (apart here) in
      let old = ap (λ n. bit_at n b) at_a in
      let now = ap (λ n. bit_at n b) new_a in
      omega (arith, bits, zero, old, now))
      (λ other.
      ap (λ n. bit_at n b) (ap (λ (k : Known). k.mask)
      (sym (get_or-set_other part i a more (record { mask = 0; value = 0 }) other))))
      (cases_eq a i)

  -- one bit fewer is open in a half
  pub open_half : i < length part → opened rules part ≡ suc (opened rules (set part i more))
  open_half within =
      let k = 64 * i + j in
      let low = is.index in
      let place = is.place in
      let p = λ (m : ℕ). opens_at rules part (m / 64) (m % 64) in
      let q = λ (m : ℕ). opens_at rules (set part i more) (m / 64) (m % 64) in
      let a : k / 64 ≡ i = omega (arith, place) in
      let b : k % 64 ≡ j = omega (arith, place) in
      let old : bit_at (mask_at part i) j ≡ 0 = ap (λ n. bit_at n j) known ∙ is.unknown.is_unknown in
      let now : bit_at (mask_at (set part i more) i) j ≡ 1 =
      let bits = bit_at_or is.unknown.known.mask (2 ^ j) j in
      let one = bit_at-pow_same j in
      let lt = bit_at-lt is.unknown.known.mask j in
      let made = ap (λ n. bit_at n j) (new within ∙ mask) in
      omega (arith, bits, one, lt, made) in
      let one : p k ≡ true = ap (λ n. opens_at rules part n (k % 64)) a ∙ ap (opens_at rules part i) b ∙ rw old is.compared in
      let none : q k ≡ false =
      ap (λ n. opens_at rules (set part i more) n (k % 64)) a ∙ ap (opens_at rules (set part i more) i) b ∙ rw now refl in
      let same = λ (m : ℕ) (other : m ≡ k → ⊥).
      ap (λ v. if nat_eq v 1 then false else list_any (list_any (compares (m / 64) (m % 64))) rules)
      (others (m / 64) (m % 64) within (λ e f. other (omega (arith, e, f)))) in
      count_flip p q 384 k (omega (arith, low, place)) one none same

by_bit : (bit own_bit any : Bool) → (own_bit ≡ true → bit ≡ true) → (if bit then false else any) ≡ true
    → (if own_bit then false else any) ≡ true
by_bit true own_bit any h is = absurd (false≢true is)
by_bit false true any h is = absurd (false≢true (h refl))
by_bit false false any h is = is

fixed_bit : (own : Rule) (part : List Known) (i j : ℕ) → KnowsFixed own part → i < 6 → list_any (fixes i j) own ≡ true
    → nat_eq (bit_at (mask_at part i) j) 1 ≡ true
fixed_bit own part i j fixed low fix =
    let here = get_or part i (record { mask = 0; value = 0 }) in
    let there : slice_get part i ≡ Some here = slice_get-get_or part i (record { mask = 0; value = 0 }) (omega (arith, low, fixed.long)) in
    eq-eqb _ 1 (fixed.each i j here there fix)

-- at first no more are open than the rule leaves open
pub open_first : (own : Rule) (rules : List Rule) (part : List Known) → KnowsFixed own part → opened rules part ≤ open_bits own rules
open_first own rules part fixed = count_le (λ k. opens_at rules part (k / 64) (k % 64)) (λ k. is_open own rules (k / 64) (k % 64)) 384
    (λ k small is.
    by_bit (nat_eq (bit_at (mask_at part (k / 64)) (k % 64)) 1) (list_any (fixes (k / 64) (k % 64)) own)
    (list_any (list_any (compares (k / 64) (k % 64))) rules)
    (λ fix. fixed_bit own part (k / 64) (k % 64) fixed (omega (arith, small)) fix) is)

-- ---- sets that are left

-- so many sets may come of one, and of all that are left
abbrev pub weight : List Rule → List Known → ℕ
weight rules part = 2 * 2 ^ opened rules part - 1

abbrev pub total : List Rule → List (List Known) → ℕ
total rules left = sum_by (weight rules) left

pub total_push : (rules : List Rule) (left : List (List Known)) (part : List Known)
    → total rules (left ++ part ∷ []) ≡ total rules left + weight rules part
total_push rules left part = sum_by-append (weight rules) left (part ∷ []) ∙ omega arith

pub some_weight : (rules : List Rule) (part : List Known) → 1 ≤ weight rules part
some_weight rules part = let pos = pow_pos (opened rules part) in omega (arith, pos)

-- another rule holds for each call for which this one does, or the call lies in a set that is left
pub record AreLeft (arch : TargetArch) (number : ℕ) (own : Rule) (others : List Rule) (left : List (List Known)) : Type 0 where
  pub kept : All AreKept left
  pub long : All (λ (part : List Known). length part ≡ 6) left
  pub each : (s : List ℕ) → IsCallOf arch number own s → SomeHolds others s ⊎ Any (λ (part : List Known). HasKnown part s) left

module _ (arch : TargetArch) (number : ℕ) (own : Rule) (others : List Rule) where
  pub left_first : (left : List (List Known)) (part : List Known) → left ≡ [] ++ part ∷ [] → AreKept part → length part ≡ 6
      → ((s : List ℕ) → IsRecord s → RuleHolds own s → HasKnown part s) → AreLeft arch number own others left
  left_first left part is kept long has = subst (AreLeft arch number own others) (sym is) record {
    kept = All-push AreKept [] part (All-nil AreKept) kept;
    long = All-push (λ (q : List Known). length q ≡ 6) [] part (All-nil (λ (q : List Known). length q ≡ 6)) long;
    each = λ s call. inr (Any-push (λ (q : List Known). HasKnown q s) [] part (has s call.record_is call.holds));
  }

  pub all_covered : (left : List (List Known)) → AreLeft arch number own others left → length left ≡ 0
      → (s : List ℕ) → IsCallOf arch number own s → SomeHolds others s
  all_covered left are empty s call =
      ⊎_elim (λ done. done) (λ any. absurd (omega (arith, empty, any.2))) (are.each s call)

  module _ (left : List (List Known)) (part : List Known) (are : AreLeft arch number own others (left ++ part ∷ [])) where
    pub part_kept : AreKept part
    part_kept = (All-pop AreKept (left ++ part ∷ []) left (Some part) refl are.kept).1

    pub part_long : length part ≡ 6
    part_long = (All-pop (λ (q : List Known). length q ≡ 6) (left ++ part ∷ []) left (Some part) refl are.long).1

    rest_kept : All AreKept left
    rest_kept = (All-pop AreKept (left ++ part ∷ []) left (Some part) refl are.kept).0

    rest_long : All (λ (q : List Known). length q ≡ 6) left
    rest_long = (All-pop (λ (q : List Known). length q ≡ 6) (left ++ part ∷ []) left (Some part) refl are.long).0

    pub left_done : ((s : List ℕ) → IsRecord s → HasKnown part s → RuleHolds own s → SomeHolds others s)
        → AreLeft arch number own others left
    left_done done = record {
      kept = rest_kept;
      long = rest_long;
      each = λ s call.
          ⊎_elim
          (λ holds. inl holds)
          (λ any. ⊎_elim (λ before. inr before) (λ has. inl (done s call.record_is has call.holds))
          (any_cases (λ (q : List Known). HasKnown q s) left part any))
          (are.each s call);
    }

    pub left_split : (i j : ℕ) (new : List (List Known)) → AddsHalves part i j left new → AreLeft arch number own others new
    left_split i j new adds =
        let low : List Known = set part i adds.low in
        let high : List Known = set part i adds.high in
        let Long : List Known → Type 0 = λ q. length q ≡ 6 in
        subst (AreLeft arch number own others) (sym adds.added) record {
          kept = All-push AreKept (left ++ high ∷ []) low
              (All-push AreKept left high rest_kept (kept_set part i adds.high part_kept adds.high_kept))
              (kept_set part i adds.low part_kept adds.low_kept);
          long = All-push Long (left ++ high ∷ []) low
              (All-push Long left high rest_long (length-set part i adds.high ∙ part_long)) (length-set part i adds.low ∙ part_long);
          each = λ s call.
              ⊎_elim
              (λ holds. inl holds)
              (λ any. inr (⊎_elim
              (λ before. any_left (λ (q : List Known). HasKnown q s) (left ++ high ∷ []) (low ∷ [])
              (any_left (λ (q : List Known). HasKnown q s) left (high ∷ []) before))
              (λ has. ⊎_elim
              (λ of_low. Any-push (λ (q : List Known). HasKnown q s) (left ++ high ∷ []) low (known_set part i adds.low s has of_low))
              (λ of_high. any_left (λ (q : List Known). HasKnown q s) (left ++ high ∷ []) (low ∷ [])
              (Any-push (λ (q : List Known). HasKnown q s) left high (known_set part i adds.high s has of_high)))
              (adds.cover (argument_at s i) (has.each i adds.known adds.there)))
              (any_cases (λ (q : List Known). HasKnown q s) left part any)))
              (are.each s call);
        }

-- ---- steps of the search

-- a set in two halves: one set fewer may come
pub total_split : (rules : List Rule) (part : List Known) (i j : ℕ) (before new : List (List Known)) → IsOpenAt part rules i j
    → length part ≡ 6 → AddsHalves part i j before new → total rules new + 1 ≤ total rules (before ++ part ∷ [])
total_split rules part i j before new is long adds =
    let same : Some adds.known ≡ Some is.unknown.known = sym adds.there ∙ is.unknown.there in
    let known : adds.known ≡ is.unknown.known = cc in
    let within : i < length part = omega (arith, long, is.index) in
    let mask = λ (m : ℕ) (made : m ≡ bit_or adds.known.mask (2 ^ j)). made ∙ ap (λ (k : Known). bit_or k.mask (2 ^ j)) known in
    let low = open_half rules part i j adds.low is (mask adds.low.mask adds.low_mask) within in
    let high = open_half rules part i j adds.high is (mask adds.high.mask adds.high_mask) within in
    let of_low = ap (λ n. 2 ^ n) low ∙ pow-suc 2 (opened rules (set part i adds.low)) in
    let of_high = ap (λ n. 2 ^ n) high ∙ pow-suc 2 (opened rules (set part i adds.high)) in
    let some_low = pow_pos (opened rules (set part i adds.low)) in
    let some_high = pow_pos (opened rules (set part i adds.high)) in
    let old = total_push rules before part in
    let all = ap (total rules) adds.added ∙ total_push rules (before ++ set part i adds.high ∷ []) (set part i adds.low) in
    let first = total_push rules before (set part i adds.high) in
    omega (arith, of_low, of_high, some_low, some_high, old, all, first)

-- a vector that is empty has no items
pub none_left : (xs : List (List Known)) (n : ℕ) (empty : Bool) → n ≡ length xs → empty ≡ (n == 0) → empty ≡ true → length xs ≡ 0
none_left xs n empty long is full = grind (arith, nat_tests, long, is, full)
