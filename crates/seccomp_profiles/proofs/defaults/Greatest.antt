-- For the functions of `defaults`: the greatest number that is named, as more is looked at.
use Rattle.std.proofs.Common.{◌≡◌, ◌<◌, ℕ, max, List, [], ◌∷◌, ◌++◌, refl, sym, subst, ◌∙◌, arith, inl, inr}
use Rattle.std.specs.Prelude.{Any}
use Rattle.std.proofs.lemmas.Bool.{cases_lt}
use Rattle.seccomp_profiles.specs.Abis.{end_for}
use Rattle.seccomp_profiles.specs.Defaults.{IsGreatest}
use Rattle.seccomp_profiles.specs.declared.types.Abi.{Abi}
use Rattle.seccomp_profiles.specs.declared.types.Abi.TheVariants.{I386, Native, X32}
use Rattle.seccomp_profiles.proofs.Quantified.{any_push, any_nil}

-- The numbers of calls begin at 0.
pub end_positive : (abi : Abi) → 0 < end_for abi
end_positive (Native arch) = omega arith
end_positive I386 = omega arith
end_positive X32 = omega arith

-- Nothing has a greatest number.
pub greatest_none : (end : ℕ) (P : ℕ → Type 0) → 0 < end → ((n : ℕ) → P n → ⊥) → IsGreatest end P 0
greatest_none end P positive none = record { most = λ n has. absurd (none n has); own = inl refl; small = omega arith }

pub greatest_nil : {X : Type 0} (end : ℕ) (Q : X → ℕ → Type 0) → 0 < end → IsGreatest end (λ n. Any (λ x. Q x n) []) 0
greatest_nil end Q positive = greatest_none end (λ n. Any (λ x. Q x n) []) positive (λ n any. any_nil (λ x. Q x n) any)

-- The greater one is the greatest of what one thing more has.
pub greatest_more : {X : Type 0} (end : ℕ) (Q : X → ℕ → Type 0) (xs ys : List X) (x : X) (g h m : ℕ) → ys ≡ xs ++ x ∷ []
    → IsGreatest end (λ n. Any (λ x. Q x n) xs) g → IsGreatest end (Q x) h → m ≡ max g h → IsGreatest end (λ n. Any (λ x. Q x n) ys) m
greatest_more end Q xs ys x g h m longer before last is_max = subst (λ ys. IsGreatest end (λ n. Any (λ x. Q x n) ys) m) (sym longer)
    (record {
      most = λ n any. elim ((any_push (λ x. Q x n) xs x).0 any) [
        | inl there ↦ let most = before.most n there in omega arith
        | inr here ↦ let most = last.most n here in omega arith
      ];
      own = elim (cases_lt g h) [
        | inr most ↦ let is : m ≡ g = omega arith in elim before.own [
          | inl zero ↦ inl (is ∙ zero)
          | inr has ↦ inr (subst (λ n. Any (λ x. Q x n) (xs ++ x ∷ [])) (sym is) ((any_push (λ x. Q x g) xs x).1 (inl has)))
        ]
        | inl less ↦ let is : m ≡ h = omega arith in elim last.own [
          | inl zero ↦ inl (is ∙ zero)
          | inr has ↦ inr (subst (λ n. Any (λ x. Q x n) (xs ++ x ∷ [])) (sym is) ((any_push (λ x. Q x h) xs x).1 (inr has)))
        ]
      ];
      small =
          let one = before.small in
          let other = last.small in
          omega arith;
    })

-- What has nothing changes nothing.
pub greatest_passed : {X : Type 0} (end : ℕ) (Q : X → ℕ → Type 0) (xs ys : List X) (x : X) (g : ℕ) → ys ≡ xs ++ x ∷ []
    → IsGreatest end (λ n. Any (λ x. Q x n) xs) g → ((n : ℕ) → Q x n → ⊥) → IsGreatest end (λ n. Any (λ x. Q x n) ys) g
greatest_passed end Q xs ys x g longer before none =
    let small = before.small in
    greatest_more end Q xs ys x g 0 g longer before (greatest_none end (Q x) (omega arith) none) (omega arith)
