-- For `known` and `covered`: numbers of 64 bits of which some bits are known.
use lib.Count.{count_leading_zeros}
use Rattle.std.proofs.Common.{◌≡◌, ℕ, suc, ◌+◌, ◌-◌, ◌*◌, ◌/◌, ◌%◌, ◌<◌, ◌≤◌, ◌^◌, List, [], ◌∷◌, ◌++◌, length, All, Some}
use Rattle.std.proofs.Common.{sym, ap, ◌∙◌, subst, refl, arith, ◌⊎◌, inl, inr, ⊎_elim, get_or, map, take, Bool, true, false, ◌&&◌, ◌||◌}
use Rattle.std.specs.List.{list_any}
use Rattle.std.proofs.Math.ListN.{set}
use Rattle.std.proofs.Math.Nat.{mul-le-mul_left, mod-lt, pow-suc}
use Rattle.std.specs.Prelude.{Any, Contains, bit_and, bit_or, bit_xor, slice_get}
use Rattle.std.specs.Int.{bit_at}
use Rattle.std.proofs.lemmas.Bool.{cases_eq, cases_lt, false≢true}
use Rattle.std.proofs.lemmas.List.{get_or-map, get_or-set_same, get_or-set_other, length-map, length-set, take_more}
use Rattle.std.proofs.lemmas.List.Folds.{list_any-append}
use Rattle.std.proofs.lemmas.List.Elements.{All-nil, All-push, Contains-append_left, Contains-push_cases}
use Rattle.std.proofs.lemmas.Nat.{and_le_l, leading_top, pow_pos, shr_split, xor_lt}
use Rattle.std.proofs.lemmas.Nat.Bits.{same_from_bits, bit_at_and, bit_at_or, bit_at_xor, bit_at-lt, bit_at-zero}
use Rattle.std.proofs.lemmas.Option.{slice_get_within, slice_get-get_or, get_or_from_slice_get}
use Rattle.seccompiler.specs.Machine.{IsRecord, argument_at, word_at}
use Rattle.seccomp_compare.specs.Known.{AreKept, HasBits, HasKnown, KeepsBits}
use Rattle.seccomp_compare.specs.declared.known.Known.{Known}
use Rattle.seccomp_compare.proofs.Masks.{mask_over_or}

-- bits under two masks
pub both_known : (x k v m l : ℕ) → bit_and x k ≡ v → bit_and x m ≡ l → bit_and x (bit_or k m) ≡ bit_or v l
both_known x k v m l e d = mask_over_or x k m ∙ ap (λ n. bit_or n (bit_and x m)) e ∙ ap (bit_or v) d

pub both_kept : (k v m l : ℕ) → bit_and v k ≡ v → bit_and l m ≡ l → bit_and (bit_or v l) (bit_or k m) ≡ bit_or v l
both_kept k v m l kept within = same_from_bits _ _ (λ i.
    let a = bit_at_and (bit_or v l) (bit_or k m) i in
    let b = bit_at_or v l i in
    let d = bit_at_or k m i in
    let w = sym (bit_at_and v k i) ∙ ap (λ n. bit_at n i) kept in
    let g = sym (bit_at_and l m i) ∙ ap (λ n. bit_at n i) within in
    omega (arith, a, b, d, w, g))

-- the highest bit of a number of 64 bits is 1
highest_bit : (a : ℕ) → 0 < a → a < 2 ^ 64 → bit_at a (63 - count_leading_zeros 64 a) ≡ 1
highest_bit a some fits =
    let top = leading_top 64 a some fits in
    let j = top.0 in
    let at : 63 - count_leading_zeros 64 a ≡ j = omega (arith, top.1) in
    let split = shr_split a j in
    let rest : a % 2 ^ j < 2 ^ j = mod-lt a (pow_pos j) in
    let double : 2 ^ suc j ≡ 2 ^ j * 2 = pow-suc 2 j in
    let one : a / 2 ^ j ≡ 1 =
    ⊎_elim
    (λ none. let z : a / 2 ^ j ≡ 0 = omega (arith, none) in let p = ap (λ n. n * 2 ^ j) z in absurd (omega (arith, p, split, rest, top.2)))
    (λ some. ⊎_elim
    (λ one. omega (arith, one, some))
    (λ two. let h = mul-le-mul_left (2 ^ j) two in absurd (omega (arith, h, split, double, top.3)))
    (cases_lt (a / 2 ^ j) 2))
    (cases_lt (a / 2 ^ j) 1) in
    ap (λ n. bit_at a n) at ∙ ap (λ n. n % 2) one

-- the highest bit of a mask that isn't known
pub top_unknown : (k m : ℕ) → m < 2 ^ 64 → (bit_and m k ≡ m → ⊥)
    → let j = 63 - count_leading_zeros 64 (bit_xor m (bit_and m k)) in (bit_at k j ≡ 0) × (bit_at m j ≡ 1)
top_unknown k m fits unsure =
    let u = bit_xor m (bit_and m k) in
    let j = 63 - count_leading_zeros 64 u in
    let none : u ≡ 0 → ⊥ = λ e. unsure (same_from_bits _ _ (λ i.
    let x = sym (bit_at_xor m (bit_and m k) i) ∙ ap (λ n. bit_at n i) e ∙ bit_at-zero i in
    let a = bit_at_and m k i in
    let lm = bit_at-lt m i in
    let lk = bit_at-lt k i in
    omega (arith, x, a, lm, lk))) in
    let some : 0 < u = omega (arith, none) in
    let small : bit_and m k < 2 ^ 64 = omega (arith, and_le_l m k, fits) in
    let one = highest_bit u some (xor_lt 64 m (bit_and m k) fits small) in
    let x = bit_at_xor m (bit_and m k) j in
    let a = bit_at_and m k j in
    let lm = bit_at-lt m j in
    let lk = bit_at-lt k j in
    (omega (arith, one, x, a, lm, lk), omega (arith, one, x, a, lm, lk))

-- ---- arguments

pub argument_fits : (r : List ℕ) (i : ℕ) → IsRecord r → i ≤ 5 → argument_at r i < 2 ^ 64
argument_fits r i rec few =
    let long = rec.long in
    let a = rec.bytes (16 + 8 * i) 0 (omega arith) in
    let b = rec.bytes (16 + 8 * i + 1) 0 (omega arith) in
    let c = rec.bytes (16 + 8 * i + 1 + 1) 0 (omega arith) in
    let d = rec.bytes (16 + 8 * i + 1 + 1 + 1) 0 (omega arith) in
    let e = rec.bytes (16 + 8 * i + 1 + 1 + 1 + 1) 0 (omega arith) in
    let f = rec.bytes (16 + 8 * i + 1 + 1 + 1 + 1 + 1) 0 (omega arith) in
    let g = rec.bytes (16 + 8 * i + 1 + 1 + 1 + 1 + 1 + 1) 0 (omega arith) in
    let h = rec.bytes (16 + 8 * i + 1 + 1 + 1 + 1 + 1 + 1 + 1) 0 (omega arith) in
    omega (arith, a, b, c, d, e, f, g, h)

-- what is in a list after a write: the new value at its place, the old ones elsewhere
pub set_found : {X : Type 0} (xs : List X) (w : ℕ) (v : X) (j : ℕ) (s : X) → slice_get (set xs w v) j ≡ Some s
    → ((j ≡ w) × (v ≡ s)) ⊎ ((j ≡ w → ⊥) × (slice_get xs j ≡ Some s))
set_found xs w v j s found =
    let long = length-set xs w v in
    let behind = slice_get_within (set xs w v) j s found in
    let within : j < length xs = omega (arith, long, behind) in
    let is = get_or_from_slice_get (set xs w v) j s s found in
    ⊎_elim
    (λ same.
    let at : w < length xs = omega (arith, same, within) in
    inl (same, sym (get_or-set_same xs w v s at) ∙ ap (λ n. get_or (set xs w v) n s) (sym same) ∙ is))
    (λ other. inr (other, slice_get-get_or xs j s within ∙ ap (λ t. Some t) (sym (get_or-set_other xs w j v s other) ∙ is)))
    (cases_eq j w)

-- one more argument is known
pub known_set : (part : List Known) (i : ℕ) (v : Known) (r : List ℕ) → HasKnown part r → HasBits v (argument_at r i)
    → HasKnown (set part i v) r
known_set part i v r old new = record {
  each = λ j k found.
      ⊎_elim
      (λ here. subst (λ (s : Known). HasBits s (argument_at r j)) here.1 (subst (λ n. HasBits v (argument_at r n)) (sym here.0) new))
      (λ other. old.each j k other.1)
      (set_found part i v j k found);
}

pub kept_set : (part : List Known) (i : ℕ) (v : Known) → AreKept part → KeepsBits v → AreKept (set part i v)
kept_set part i v old new = record {
  each = λ j k found.
      ⊎_elim
      (λ here. subst KeepsBits here.1 new)
      (λ other. old.each j k other.1)
      (set_found part i v j k found);
}

-- an argument is two words
argument_halves : (r : List ℕ) (i : ℕ)
    → argument_at r i ≡ word_at r (4 * (4 + 2 * i)) + 2 ^ 32 * word_at r (4 * (5 + 2 * i))
argument_halves r i =
    let low : 4 * (4 + 2 * i) ≡ 16 + 8 * i = omega arith in
    let high : 4 * (5 + 2 * i) ≡ 16 + 8 * i + 4 = omega arith in
    let halves : argument_at r i ≡ word_at r (16 + 8 * i) + 2 ^ 32 * word_at r (16 + 8 * i + 4) = grind arith in
    halves ∙ ap (λ n. word_at r n + 2 ^ 32 * word_at r (16 + 8 * i + 4)) (sym low)
    ∙ ap (λ n. word_at r (4 * (4 + 2 * i)) + 2 ^ 32 * word_at r n) (sym high)

-- an argument is the same if its two words are
pub argument_kept : (r s : List ℕ) (i : ℕ) → word_at s (4 * (4 + 2 * i)) ≡ word_at r (4 * (4 + 2 * i))
    → word_at s (4 * (5 + 2 * i)) ≡ word_at r (4 * (5 + 2 * i)) → argument_at s i ≡ argument_at r i
argument_kept r s i low high =
    argument_halves s i ∙ ap (λ n. n + 2 ^ 32 * word_at s (4 * (5 + 2 * i))) low
    ∙ ap (λ n. word_at r (4 * (4 + 2 * i)) + 2 ^ 32 * n) high ∙ sym (argument_halves r i)

-- and it is the number whose halves they are
pub argument_made : (r : List ℕ) (i v : ℕ) → word_at r (4 * (4 + 2 * i)) ≡ v % 2 ^ 32 → word_at r (4 * (5 + 2 * i)) ≡ v / 2 ^ 32
    → argument_at r i ≡ v
argument_made r i v low high =
    let halves = argument_halves r i in
    let split : v ≡ v / 2 ^ 32 * 2 ^ 32 + v % 2 ^ 32 = omega arith in
    halves ∙ ap (λ n. n + 2 ^ 32 * word_at r (4 * (5 + 2 * i))) low ∙ ap (λ n. v % 2 ^ 32 + 2 ^ 32 * n) high ∙ omega arith

-- ---- lists

pub any_left : {X : Type 0} (P : X → Type 0) (xs ys : List X) → Any P xs → Any P (xs ++ ys)
any_left P xs ys any =
    let at = Contains-append_left xs ys any.1 (any.0, any.2, any.3) in
    (at.0, any.1, at.1, at.2, any.4)

pub any_cases : {X : Type 0} (P : X → Type 0) (xs : List X) (y : X) → Any P (xs ++ y ∷ []) → Any P xs ⊎ P y
any_cases P xs y any =
    ⊎_elim
    (λ at. inl (at.0, any.1, at.1, at.2, any.4))
    (λ same. inr (subst P (sym same) any.4))
    (Contains-push_cases xs y any.1 (any.0, any.2, any.3))

pub all_one : {X : Type 0} (P : X → Type 0) (x : X) → P x → All P (x ∷ [])
all_one P x is = All-push P [] x (All-nil P) is

-- one more item of a list
pub take_next : {X : Type 0} (xs : List X) (i : ℕ) (x : X) → i < length xs → x ≡ get_or xs i x → take (i + 1) xs ≡ take i xs ++ x ∷ []
take_next xs i x room is = subst (λ z. take (i + 1) xs ≡ take i xs ++ z ∷ []) (sym is) (take_more xs i x room)

-- what stands at a place of a list, after a function
pub contains_map : {X Y : Type 0} (f : X → Y) (xs : List X) (i : ℕ) (x : X) → i < length xs → x ≡ get_or xs i x → Contains (map f xs) (f x)
contains_map f xs i x within is =
    let long = length-map xs f in
    (i, omega (arith, long, within), get_or-map f xs i x (f x) within ∙ ap f (sym is))

-- ---- tests

pub or_cases : (a b : Bool) → (a || b) ≡ true → (a ≡ true) ⊎ (b ≡ true)
or_cases true b is = inl refl
or_cases false b is = inr is

pub or_right : (a b : Bool) → b ≡ true → (a || b) ≡ true
or_right true b is = refl
or_right false b is = is

pub and_both : (a b : Bool) → (a && b) ≡ true → (a ≡ true) × (b ≡ true)
and_both true b is = (refl, is)
and_both false b is = cc

-- a test of some item, with one item more
pub any_more : {X : Type 0} (p : X → Bool) (xs : List X) (x : X) → list_any p (xs ++ x ∷ []) ≡ true
    → (list_any p xs ≡ true) ⊎ (p x ≡ true)
any_more p xs x is =
    ⊎_elim (λ front. inl front) (λ last. ⊎_elim (λ one. inr one) (λ none. absurd (false≢true none)) (or_cases (p x) false last))
    (or_cases (list_any p xs) (list_any p (x ∷ [])) (sym (list_any-append p xs (x ∷ [])) ∙ is))
