-- What holds of some of a list's elements, and of each, as the list grows or is put into order.
use Rattle.std.proofs.Common.{◌↔◌, List, [], ◌∷◌, ◌++◌, ◌⊎◌, inl, inr, Some, refl}
use Rattle.std.specs.Prelude.{All, Any}
use Rattle.std.specs.List.Sorted.{IsPermutation}
use Rattle.std.proofs.lemmas.List.Elements.{All-pop, All-push}
use Rattle.std.proofs.lemmas.List.Sorted.{IsPermutation-sym}
use Rattle.seccompiler.proofs.Searches.{any_cases, any_head, any_nil, any_tail, Any-permutation}

module _ {X : Type 0} (P : X → Type 0) where
  -- Some element of a list with one more at its end.
  pub any_push : (xs : List X) (x : X) → Any P (xs ++ x ∷ []) ↔ (Any P xs ⊎ P x)
  any_push [] x = (
    λ any. elim (any_cases P x [] any) [ inl here ↦ inr here | inr none ↦ inl none ],
    λ either. elim either [ inl none ↦ absurd (any_nil P none) | inr here ↦ any_head P x [] here ],
  )
  any_push (y ∷ xs) x = let rest = any_push xs x in (
    λ any. elim (any_cases P y (xs ++ x ∷ []) any) [
      | inl here ↦ inl (any_head P y xs here)
      | inr later ↦ elim (rest.0 later) [ inl before ↦ inl (any_tail P y xs before) | inr last ↦ inr last ]
    ],
    λ either. elim either [
      | inl before ↦ elim (any_cases P y xs before) [
        | inl here ↦ any_head P y (xs ++ x ∷ []) here
        | inr later ↦ any_tail P y (xs ++ x ∷ []) (rest.1 (inl later))
      ]
      | inr last ↦ any_tail P y (xs ++ x ∷ []) (rest.1 (inr last))
    ],
  )

  -- Each element of a list with one more at its end.
  pub all_push : (xs : List X) (x : X) → All P (xs ++ x ∷ []) ↔ (All P xs × P x)
  all_push xs x = (All-pop P (xs ++ x ∷ []) xs (Some x) refl, λ both. All-push P xs x both.0 both.1)

  -- Some element of a list in another order.
  pub any_permuted : (xs ys : List X) → IsPermutation xs ys → Any P ys ↔ Any P xs
  any_permuted xs ys moved = (Any-permutation P ys xs (IsPermutation-sym xs ys moved), Any-permutation P xs ys moved)
