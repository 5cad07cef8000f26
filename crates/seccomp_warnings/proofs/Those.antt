-- For `walk`: those of a list of which something is so, and a list by its places, one element on.
use Rattle.std.proofs.Common.{◌≡◌, ◌+◌, ◌<◌, ◌∙◌, ℕ, zero, suc, List, [], ◌∷◌, ◌++◌, ap, arith, get_or, inl, inr, length, refl, sym, take}
use Rattle.std.specs.List.{All, enumerate_from}
use Rattle.std.proofs.lemmas.List.Elements.{All-cons, All-nil, All-same}
use Rattle.seccomp_warnings.specs.Warnings.{AreThose}

module _ {X : Type 0} (P : X → Type 0) where
  -- One more, of which it is so.
  pub one_more : (xs ys : List X) (x : X) → AreThose P xs ys → P x → AreThose P (xs ++ x ∷ []) (ys ++ x ∷ [])
  one_more [] ys x none so = inr ([], ap (λ (l : List X). l ++ x ∷ []) none, so, refl)
  one_more (z ∷ xs) ys x (inl (fails, rest)) so = inl (fails, one_more xs ys x rest so)
  one_more (z ∷ xs) ys x (inr (zs, is, has, rest)) so =
      inr (zs ++ x ∷ [], ap (λ (l : List X). l ++ x ∷ []) is, has, one_more xs zs x rest so)

  -- One more, of which it isn't.
  pub none_more : (xs ys : List X) (x : X) → AreThose P xs ys → (P x → ⊥) → AreThose P (xs ++ x ∷ []) ys
  none_more [] ys x none not = inl (not, none)
  none_more (z ∷ xs) ys x (inl (fails, rest)) not = inl (fails, none_more xs ys x rest not)
  none_more (z ∷ xs) ys x (inr (zs, is, so, rest)) not = inr (zs, is, so, none_more xs zs x rest not)

  -- Of each of them it is so.
  pub those_are : (xs ys : List X) → AreThose P xs ys → All P ys
  those_are [] ys none = All-same P ys [] none (All-nil P)
  those_are (x ∷ xs) ys (inl (fails, rest)) = those_are xs ys rest
  those_are (x ∷ xs) ys (inr (zs, is, so, rest)) = All-same P ys (x ∷ zs) is (All-cons P x zs so (those_are xs zs rest))

one_longer : {X : Type 0} (n : ℕ) (xs : List X) (i : ℕ) (d : X) → i < length xs
    → enumerate_from n (take (suc i) xs) ≡ enumerate_from n (take i xs) ++ (n + i, get_or xs i d) ∷ []
one_longer n [] i d within = absurd (omega (arith, within))
one_longer {X} n (x ∷ xs) zero d within = let same : n ≡ n + zero = omega arith in ap (λ (m : ℕ). (m, x) ∷ []) same
one_longer {X} n (x ∷ xs) (suc i) d within =
    let same : (n + 1) + i ≡ n + suc i = omega arith in
    ap (λ (l : List (ℕ × X)). (n, x) ∷ l)
    (one_longer (n + 1) xs i d (omega (arith, within)) ∙ ap (λ (m : ℕ). enumerate_from (n + 1) (take i xs) ++ (m, get_or xs i d) ∷ []) same)

pub enumerate_more : {X : Type 0} (xs : List X) (i : ℕ) (d : X) → i < length xs
    → enumerate_from 0 (take (i + 1) xs) ≡ enumerate_from 0 (take i xs) ++ (i, get_or xs i d) ∷ []
enumerate_more {X} xs i d within =
    let more : suc i ≡ i + 1 = omega arith in
    let same : 0 + i ≡ i = omega arith in
    ap (λ (m : ℕ). enumerate_from 0 (take m xs)) (sym more) ∙ one_longer 0 xs i d within
    ∙ ap (λ (m : ℕ). enumerate_from 0 (take i xs) ++ (m, get_or xs i d) ∷ []) same
