-- For `argument`, `evasion` and `sibling`: what some row of a table has, as it is read. For `beside`: what some value of a map has.
use Rattle.std.proofs.Common.{◌≡◌, ℕ, ◌<◌, List, [], ◌∷◌, zero, suc, arith, refl, sym, subst, ap, map, length, get_or}
use Rattle.std.specs.Prelude.{◌↔◌, Any, Bool, IsTrue}
use Rattle.std.specs.Bool.{MatchBool}
use Rattle.std.specs.List.{AllWithin, HoldsAt}
use Rattle.std.proofs.lemmas.Bool.{MatchBool-at_true}
use Rattle.std.proofs.lemmas.Iterator.Search.{true_from_Any}
use Rattle.std.proofs.lemmas.List.{get_or_default}

module _ {X Y : Type 0} (P : Y → Type 0) (f : X → Y) where
  pub any_from : (xs : List X) → Any (λ x. P (f x)) xs → Any P (map f xs)
  any_from [] any = absurd (omega (arith, any.2))
  any_from (x ∷ xs) (zero, y, within, is, has) = (0, f y, omega arith, ap f is, has)
  any_from (x ∷ xs) (suc k, y, within, is, has) =
      let rest = any_from xs (k, y, omega arith, is, has) in
      (suc rest.0, rest.1, omega (arith, rest.2), rest.3, rest.4)

  pub any_map : (xs : List X) → Any P (map f xs) → Any (λ x. P (f x)) xs
  any_map [] any = absurd (omega (arith, any.2))
  any_map (x ∷ xs) (zero, y, within, is, has) = (0, x, omega arith, refl, subst P (sym is) has)
  any_map (x ∷ xs) (suc k, y, within, is, has) =
      let rest = any_map xs (k, y, omega arith, is, has) in
      (suc rest.0, rest.1, omega (arith, rest.2), rest.3, rest.4)

-- One of a list at a place.
pub any_here : {X : Type 0} (P : X → Type 0) (xs : List X) (k : ℕ) (d : X) → k < length xs → P (get_or xs k d) → Any P xs
any_here P xs k d within has = (k, get_or xs k d, within, get_or_default xs k (get_or xs k d) d within, has)

any_at : {X : Type 0} (P : X → Type 0) (xs : List X) (k : ℕ) → k < length xs → HoldsAt P xs k → Any P xs
any_at P [] k within has = absurd (omega (arith, within))
any_at P (x ∷ xs) zero within has = (0, x, omega arith, refl, has x)
any_at P (x ∷ xs) (suc k) within has =
    let rest = any_at P xs k (omega (arith, within)) has in
    (suc rest.0, rest.1, omega (arith, rest.2), rest.3, rest.4)

pub some_of : {X : Type 0} (P : X → Type 0) (xs : List X) (r : Bool)
    → MatchBool r ((k : ℕ) × (k < length xs) × HoldsAt P xs k) (AllWithin (λ x. P x → ⊥) xs 0 (length xs)) → IsTrue r ↔ Any P xs
some_of P xs r cases = (
  λ yes. let at = MatchBool-at_true _ _ yes cases in any_at P xs at.0 at.1 at.2,
  λ any. true_from_Any P (λ x. P x → ⊥) r xs (λ x is fails. fails is) cases any.1 (any.0, any.2, any.3) any.4,
)
