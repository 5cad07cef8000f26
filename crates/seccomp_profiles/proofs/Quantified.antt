-- For the functions of `concerns`, `lowered` and `defaults`: what holds of some of a list's elements, as the list grows.
use Rattle.std.proofs.Common.{◌≡◌, ◌↔◌, ℕ, ◌+◌, ◌<◌, List, [], ◌∷◌, ◌++◌, length, get_or, take, subst, sym}
use Rattle.std.proofs.Common.{◌∙◌, ap, ◌⊎◌, inl, inr, arith, map, String, Global, string_bytes}
use Rattle.std.specs.Prelude.{Any}
use Rattle.std.proofs.lemmas.List.{map_push, take_more}
use Rattle.std.proofs.lemmas.List.Elements.{Contains-append_left, Contains-push_cases}
use Rattle.std.proofs.lemmas.List.Quantifiers.{Any-push}

module _ {X : Type 0} (P : X → Type 0) where
  pub any_nil : Any P [] → ⊥
  any_nil any = let within = any.2 in omega (arith, within)

  -- Some element of a list with one more is in the list, or is this one.
  pub any_push : (xs : List X) (x : X) → Any P (xs ++ x ∷ []) ↔ (Any P xs ⊎ P x)
  any_push xs x = (
    λ any. elim (Contains-push_cases xs x any.1 (any.0, any.2, any.3)) [
      | inl there ↦ inl (there.0, any.1, there.1, there.2, any.4)
      | inr is ↦ inr (subst P (sym is) any.4)
    ],
    λ either. elim either [
      | inl before ↦
          let there = Contains-append_left xs (x ∷ []) before.1 (before.0, before.2, before.3) in
          (there.0, before.1, there.1, there.2, before.4)
      | inr here ↦ Any-push P xs x here
    ],
  )

-- The elements so far and the one that was read are those of one place more.
pub more_read : {X : Type 0} (xs : List X) (i : ℕ) (x : X) → i < length xs → x ≡ get_or xs i x → take (i + 1) xs ≡ take i xs ++ x ∷ []
more_read xs i x within is = take_more xs i x within ∙ ap (λ y. take i xs ++ y ∷ []) (sym is)

-- The texts so far and that of the name that was read are those of one name more.
pub more_texts : (names : List (String Global)) (i : ℕ) (name : String Global) → i < length names → name ≡ get_or names i name
    → map string_bytes (take (i + 1) names) ≡ map string_bytes (take i names) ++ string_bytes name ∷ []
more_texts names i name within is = ap (map string_bytes) (more_read names i name within is) ∙ map_push string_bytes (take i names) name
