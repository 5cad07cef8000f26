-- What holds of each item of a list, or of some, and what a loop over it has shown of the items so far.
use Rattle.std.proofs.Common.{◌≡◌, ℕ, suc, ◌+◌, ◌<◌, ◌≤◌, List, [], ◌∷◌, length, get_or, take, refl, subst, sym, ◌⊎◌, inl, inr, arith}
use Rattle.std.specs.Prelude.{All, Any}
use Rattle.std.proofs.lemmas.List.{take_all}
use Rattle.std.specs.List.Sorted.{IsPermutation}
use Rattle.std.proofs.lemmas.List.Elements.{All-nil, All-cons, All-more, All-same}
use Rattle.std.proofs.lemmas.List.Sorted.{Contains-permutation}

-- What holds of the first i items and of the item behind them holds of one item more.
pub All-one_more : {X : Type 0} (P : X → Type 0) (xs : List X) (i : ℕ) (x : X) → i < length xs
    → x ≡ get_or xs i x → All P (take i xs) → P x → All P (take (i + 1) xs)
All-one_more P xs i x within is so_far here = All-more P xs i x within so_far (subst P is here)

-- What holds of the first items, up to the end, holds of each.
pub All-whole : {X : Type 0} (P : X → Type 0) (xs : List X) (i : ℕ) → length xs ≤ i → All P (take i xs) → All P xs
All-whole P xs i long so_far = All-same P xs (take i xs) (sym (take_all i xs long)) so_far

-- Where no item of a list has the property, none of them is the one that does.
pub none_is_any : {X : Type 0} (P : X → Type 0) (xs : List X) → All (λ x. P x → ⊥) xs → Any P xs → ⊥
none_is_any P xs none (k, x, within, is, has) = none k x within (subst P (sym is) has)

-- What some item of a list has, some item of each permutation has.
pub Any-permutation : {X : Type 0} (P : X → Type 0) (xs ys : List X) → IsPermutation xs ys → Any P xs → Any P ys
Any-permutation P xs ys order (k, x, within, is, has) = let there = Contains-permutation xs ys x order (k, within, is) in
    (there.0, x, there.1, there.2, has)

-- Each item of a list has one property, or some item has the other.
pub all_or_any : {X : Type 0} (P Q : X → Type 0) → ((x : X) → P x ⊎ Q x) → (xs : List X) → All P xs ⊎ Any Q xs
all_or_any P Q either [] = inl (All-nil P)
all_or_any P Q either (x ∷ xs) = elim (either x) [
  | inr here ↦ inr (0, x, omega arith, refl, here)
  | inl first ↦ elim (all_or_any P Q either xs) [
    | inl rest ↦ inl (All-cons P x xs first rest)
    | inr (k, y, within, is, later) ↦ inr (suc k, y, omega arith, is, later)
  ]
]

-- Some item of a list is its first or one of the others.
module _ {X : Type 0} (P : X → Type 0) where
  pub any_head : (x : X) (xs : List X) → P x → Any P (x ∷ xs)
  any_head x xs has = (0, x, omega arith, refl, has)

  pub any_tail : (x : X) (xs : List X) → Any P xs → Any P (x ∷ xs)
  any_tail x xs (k, y, within, is, has) = (suc k, y, omega arith, is, has)

  pub any_cases : (x : X) (xs : List X) → Any P (x ∷ xs) → P x ⊎ Any P xs
  any_cases x xs h = grind arith

  pub any_nil : Any P [] → ⊥
  any_nil (k, y, within, is, has) = omega arith
