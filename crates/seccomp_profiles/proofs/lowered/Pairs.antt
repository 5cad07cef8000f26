-- For `lowered`: lists whose elements stand in an order, and what several lists have.
use Rattle.std.proofs.Common.{zero, suc, List, [], ◌∷◌, ◌++◌, refl, subst, sym, arith, inl, inr}
use Rattle.std.specs.Prelude.{All, Contains}
use Rattle.std.specs.List.{AllPairs, flat_map}
use Rattle.std.proofs.lemmas.List.Elements.{All-append, All-contains_itself, All-head, All-tail, All-weaker, Contains-append_cases}
use Rattle.std.proofs.lemmas.List.Elements.{Contains-append_left, Contains-append_right}
use Rattle.std.proofs.lemmas.List.Kept.{AllPairs-cons}

-- What holds of each that a list has holds of all.
pub each_had : {X : Type 0} (P : X → Type 0) (xs : List X) → ((x : X) → Contains xs x → P x) → All P xs
each_had P xs each = All-weaker (Contains xs) P each xs (All-contains_itself xs)

pub had_none : {X : Type 0} (x : X) → Contains [] x → ⊥
had_none x (k, within, is) = omega arith

module _ {X : Type 0} (R : X → X → Type 0) where
  pub pairs_head : (x : X) (xs : List X) → AllPairs R (x ∷ xs) → All (R x) xs
  pairs_head x xs all = λ k d within. all zero (suc k) d (omega arith) (omega arith)

  pub pairs_tail : (x : X) (xs : List X) → AllPairs R (x ∷ xs) → AllPairs R xs
  pairs_tail x xs all = λ i j d less within. all (suc i) (suc j) d (omega arith) (omega arith)

  pub pairs_none : AllPairs R []
  pairs_none = λ i j d less within. absurd (omega arith)

  pub pairs_one : (x : X) → AllPairs R (x ∷ [])
  pairs_one x = λ i j d less within. absurd (omega arith)

  pub pairs_append : (xs ys : List X) → AllPairs R xs → AllPairs R ys → ((x y : X) → Contains xs x → Contains ys y → R x y)
      → AllPairs R (xs ++ ys)
  pairs_append xs ys one two across =
      go xs one (each_had (λ x. All (R x) ys) xs (λ x has. each_had (R x) ys (λ y has_too. across x y has has_too)))
    where
      go : (xs : List X) → AllPairs R xs → All (λ x. All (R x) ys) xs → AllPairs R (xs ++ ys)
      go [] one across = two
      go (x ∷ xs) one across = AllPairs-cons R x (xs ++ ys)
          (All-append (R x) xs ys (pairs_head x xs one) (All-head (λ x. All (R x) ys) x xs across))
          (go xs (pairs_tail x xs one) (All-tail (λ x. All (R x) ys) x xs across))

module _ {X Y : Type 0} (f : X → List Y) where
  -- One of several lists has it.
  pub from_mapped : (xs : List X) (y : Y) → Contains (flat_map f xs) y → (x : X) × Contains xs x × Contains (f x) y
  from_mapped [] y has = absurd (had_none y has)
  from_mapped (x ∷ xs) y has = elim (Contains-append_cases (f x) (flat_map f xs) y has) [
    | inl here ↦ (x, (0, omega arith, refl), here)
    | inr later ↦
        let rest = from_mapped xs y later in
        (rest.0, (suc rest.1.0, omega (arith, rest.1.1), rest.1.2), rest.2)
  ]

  pub to_mapped : (xs : List X) (x : X) (y : Y) → Contains xs x → Contains (f x) y → Contains (flat_map f xs) y
  to_mapped [] x y there has = absurd (had_none x there)
  to_mapped (z ∷ xs) x y (zero, within, is) has =
      Contains-append_left (f z) (flat_map f xs) y (subst (λ x. Contains (f x) y) (sym is) has)
  to_mapped (z ∷ xs) x y (suc k, within, is) has =
      Contains-append_right (f z) (flat_map f xs) y (to_mapped xs x y (k, omega arith, is) has)
