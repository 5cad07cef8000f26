-- For `has_only_names`: the names of an object, and whether they are all among some.
use Rattle.std.proofs.Common.{◌≡◌, ℕ, List, true, false, Some, Ordering, Less, Equal, Greater, refl, sym, ap, ◌∙◌, subst, Contains}
use Rattle.std.proofs.Common.{bytes_eq, nat_cmp, ◌↔◌, is_eq, ◌⊎◌, inl, inr}
use Rattle.std.specs.List.{list_any}
use Rattle.std.specs.Cmp.Lexicographic.{slice_cmp}
use Rattle.std.proofs.lemmas.Cmp.{nat_list_cmp_total, nat_list_eq_equiv, tied_itself}
use Rattle.std.proofs.lemmas.Map.Text.{is_eq-slice_cmp}
use Rattle.std.proofs.lemmas.Map.Views.{Contains-from_any, list_any-from_Contains}
use Rattle.std.proofs.lemmas.Slice.Eq.{bytes_eq-Decides}
use Rattle.serde_json.specs.Data.{Data, object, Members, member}
use Rattle.serde_json.specs.Find.{get_member}
use Rattle.seccompiler.specs.JsonShape.{HasOnly}

module _ (name : List ℕ) (d : Data) (members : Members) where
  -- What is under a name is the first member's value, if the name is its own, or else what the others have.
  first_or_later : (other : List ℕ) → ((other ≡ name) × (get_member other (member name d members) ≡ Some d))
      ⊎ (get_member other (member name d members) ≡ get_member other members)
  first_or_later other = at (slice_cmp nat_cmp other name) refl
    where
      at : (o : Ordering) → slice_cmp nat_cmp other name ≡ o
          → ((other ≡ name) × (get_member other (member name d members) ≡ Some d))
          ⊎ (get_member other (member name d members) ≡ get_member other members)
      at Less is = inr (rw is refl)
      at Equal is = inl ((bytes_eq-Decides other name).0 (sym (is_eq-slice_cmp other name) ∙ ap is_eq is), rw is refl)
      at Greater is = inr (rw is refl)

  -- The names of an object are among some where the first member's is, and the others' are.
  only_step : (names : List (List ℕ))
      → HasOnly (object (member name d members)) names ↔ ((list_any (bytes_eq name) names ≡ true) × HasOnly (object members) names)
  only_step names = (
    λ h. (
      list_any-from_Contains {eq = bytes_eq} nat_list_eq_equiv name names
          (h.no_other name d (rw (tied_itself nat_list_cmp_total name) refl)),
      record {
        is_object = (members, refl);
        no_other = λ other v there. elim (first_or_later other) [
          | inl own ↦ h.no_other other d own.1
          | inr later ↦ h.no_other other v (later ∙ there)
        ];
      },
    ),
    λ h. record {
      is_object = (member name d members, refl);
      no_other = λ other v there. elim (first_or_later other) [
        | inl own ↦ subst (Contains names) (sym own.0) (Contains-from_any {eq = bytes_eq} (λ x y. (bytes_eq-Decides x y).0) name names h.0)
        | inr later ↦ h.1.no_other other v (sym later ∙ there)
      ];
    },
  )

  -- What is left of an object's names is as the whole, and stays so behind a name that is among some.
  pub only_left : (names : List (List ℕ)) {P : Type 0} → (HasOnly (object (member name d members)) names ↔ P)
      → list_any (bytes_eq name) names ≡ true → HasOnly (object members) names ↔ P
  only_left names so_far among = (λ h. so_far.0 ((only_step names).1 (among, h)), λ h. ((only_step names).0 (so_far.1 h)).1)

  -- The whole has another name where the first that is left is not among some.
  pub only_fails : (names : List (List ℕ)) {P : Type 0} → (HasOnly (object (member name d members)) names ↔ P)
      → list_any (bytes_eq name) names ≡ false → P → ⊥
  only_fails names so_far not h = let e = sym not ∙ ((only_step names).0 (so_far.1 h)).0 in cc
