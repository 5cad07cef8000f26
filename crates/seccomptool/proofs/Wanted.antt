-- For what is wanted of calls: steps that are made in turn, and one more of them.
use Rattle.seccomptool.proofs.Common.{[], ◌++◌, ◌+◌, ◌<◌, ◌∷◌, ◌≡◌, ◌≤◌, Any, List, arith, get_or, get_or_default, length, refl, subst, suc}
use Rattle.seccomptool.proofs.Common.{sym, take, take_all, take_more, zero, ℕ}
use Rattle.seccomptool.specs.Learn.{InTurn, indices}

-- What an element has, one has.
pub some_has : {X : Type 0} (P : X → Type 0) (xs : List X) (i : ℕ) (d : X) → i < length xs → P (get_or xs i d) → Any P xs
some_has P xs i d within has =
    let same = get_or_default xs i d (get_or xs i d) within in
    (i, get_or xs i d, within, sym same, has)

module _ {X S : Type 0} (Step : X → S → S → Type 0) where
  -- One more step, at the end.
  turn_push : (xs : List X) (x : X) (a b c : S) → InTurn Step xs a b → Step x b c → InTurn Step (xs ++ x ∷ []) a c
  turn_push [] x a b c is step = (c, subst (λ s. Step x s c) is step, refl)
  turn_push (y ∷ xs) x a b c is step = (is.0, is.1, turn_push xs x is.0 b c is.2 step)

  -- One more of those that are gone through.
  pub turn_more : (xs : List X) (i : ℕ) (d : X) (a b c : S) → i < length xs → InTurn Step (take i xs) a b → Step (get_or xs i d) b c
      → InTurn Step (take (i + 1) xs) a c
  turn_more xs i d a b c within is step =
      subst (λ front. InTurn Step front a c) (sym (take_more xs i d within)) (turn_push (take i xs) (get_or xs i d) a b c is step)

  -- The end of them.
  pub turn_all : (xs : List X) (i : ℕ) (a b : S) → length xs ≤ i → InTurn Step (take i xs) a b → InTurn Step xs a b
  turn_all xs i a b end is = subst (λ front. InTurn Step front a b) (take_all i xs end) is

-- The index at a place is that place.
pub index_at : (i : ℕ) → i < 6 → get_or indices i 0 ≡ i
index_at zero within = refl
index_at (suc zero) within = refl
index_at (suc (suc zero)) within = refl
index_at (suc (suc (suc zero))) within = refl
index_at (suc (suc (suc (suc zero)))) within = refl
index_at (suc (suc (suc (suc (suc zero))))) within = refl
index_at (suc (suc (suc (suc (suc (suc i)))))) within = absurd (omega arith)
