-- For the functions of `lowered`: what stands at places of a list, and that one is asked first.
use Rattle.std.proofs.Common.{◌≡◌, ◌<◌, ◌≤◌, ◌+◌, ℕ, zero, suc, List, [], ◌∷◌, length, get_or, sym, subst, ◌∙◌, arith, inl, inr}
use Rattle.std.proofs.lemmas.Bool.{cases_lt}
use Rattle.seccomp_profiles.specs.Decision.{IsFirstLeast}

-- What is read at a place within the list is one thing.
pub same_at : {X : Type 0} (xs : List X) (k : ℕ) (x y : X) → k < length xs → x ≡ get_or xs k x → y ≡ get_or xs k y → x ≡ y
same_at [] k x y within is is_too = absurd (omega arith)
same_at (z ∷ xs) zero x y within is is_too = is ∙ sym is_too
same_at (z ∷ xs) (suc k) x y within is is_too = same_at xs k x y (omega arith) is is_too

-- A place below the next one is below this one, or is this one.
pub up_to : (k n : ℕ) (P : Type 0) → k < n + 1 → (k < n → P) → (k ≡ n → P) → P
up_to k n P below less same = elim (cases_lt k n) [ inl small ↦ less small | inr most ↦ same (omega arith) ]

module _ {X : Type 0} (rank_of : X → ℕ) (P : X → Type 0) (xs : List X) where
  -- There is one that is asked first.
  pub least_only : (n j k : ℕ) (x y : X) → n ≤ length xs → IsFirstLeast rank_of P xs n j x → IsFirstLeast rank_of P xs n k y → x ≡ y
  least_only n j k x y within one two = elim (cases_lt j k) [
    | inl less ↦
        let more = two.before j x less one.there one.holds in
        let most = one.others k y two.within two.there two.holds in
        absurd (omega arith)
    | inr most ↦ elim (cases_lt k j) [
      | inl less ↦
          let more = one.before k y less two.there two.holds in
          let least = two.others j x one.within one.there one.holds in
          absurd (omega arith)
      | inr least ↦
          let same : k ≡ j = omega arith in
          let inside = one.within in
          same_at xs j x y (omega arith) one.there (subst (λ k. y ≡ get_or xs k y) same two.there)
    ]
  ]
