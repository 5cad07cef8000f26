-- For the functions of `lists`: how far a loop has read the values of an array, one by one.
use Rattle.std.proofs.Common.{◌≡◌, ℕ, ◌+◌, ◌<◌, ◌≤◌, List, [], ◌∷◌, ◌++◌, length, get_or, drop, Option, Some, None, IfNone, refl, sym}
use Rattle.std.proofs.Common.{subst, append_assoc}
use Rattle.std.proofs.lemmas.List.{append-nil, drop_more, drop_all}
use Rattle.serde_json.specs.Data.{Data, Items, item}
use Rattle.serde_json.specs.View.{view, items_view}
use Rattle.serde_json.specs.declared.value.Value.{Value}
use Rattle.seccompiler.specs.JsonShape.{OneByOne}

-- The first i values are read, as `done`: whatever the others are, all are `done` and that; and the others are
-- something, if all are.
pub record IsReadTo {X : Type 0} (P : Data → X → Type 0) (all : List Value) (i : ℕ) (done : List X) : Type 0 where
  pub joined : (xs : List X) → OneByOne P (items_view (drop i all)) xs → OneByOne P (items_view all) (done ++ xs)
  pub left : (xs : List X) → OneByOne P (items_view all) xs → (ys : List X) × OneByOne P (items_view (drop i all)) ys

module _ {X : Type 0} (P : Data → X → Type 0) where
  behind_first : (d : Data) (others : Items) (xs : List X) → OneByOne P (item d others) xs
      → (x : X) × (ys : List X) × P d x × OneByOne P others ys
  behind_first d others [] h = absurd h
  behind_first d others (x ∷ xs) h = (x, xs, h.0, h.1)

  -- The values that are left, where there is one.
  first_left : (all : List Value) (i : ℕ) (v : Value) → i < length all → v ≡ get_or all i v → drop i all ≡ v ∷ drop (i + 1) all
  first_left all i v inside is = subst (λ w. drop i all ≡ w ∷ drop (i + 1) all) (sym is) (drop_more all i v inside)

  pub goes_on : (all : List Value) (i : ℕ) (done : List X) (v : Value) (x : X) → IsReadTo P all i done → i < length all → v ≡ get_or all i v
      → P (view v) x → IsReadTo P all (i + 1) (done ++ x ∷ [])
  goes_on all i done v x so_far inside is read = let first = first_left all i v inside is in record {
    joined = λ xs h. subst (OneByOne P (items_view all)) (sym (append_assoc done (x ∷ []) xs))
        (so_far.joined (x ∷ xs) (subst (λ vs. OneByOne P (items_view vs) (x ∷ xs)) (sym first) (read, h)));
    left = λ xs h.
        let ys = so_far.left xs h in
        let parts = behind_first (view v) _ ys.0 (subst (λ vs. OneByOne P (items_view vs) ys.0) first ys.1) in
        (parts.1, parts.3);
  }

  pub fails : (all : List Value) (i : ℕ) (done : List X) (v : Value) → IsReadTo P all i done → i < length all → v ≡ get_or all i v
      → ((x : X) → P (view v) x → ⊥) → (xs : List X) → OneByOne P (items_view all) xs → ⊥
  fails all i done v so_far inside is none xs h =
      let ys = so_far.left xs h in
      let parts = behind_first (view v) _ ys.0 (subst (λ vs. OneByOne P (items_view vs) ys.0) (first_left all i v inside is) ys.1) in
      none parts.0 parts.2

  pub ends : (all : List Value) (i : ℕ) (done : List X) → IsReadTo P all i done → length all ≤ i → OneByOne P (items_view all) done
  ends all i done so_far over =
      let nothing : drop i all ≡ [] = drop_all i all over in
      subst (OneByOne P (items_view all)) (append-nil done)
      (so_far.joined [] (subst (λ vs. OneByOne P (items_view vs) []) (sym nothing) tt))

-- What is said of nothing holds where there is not something.
pub unless_some : {X : Type 0} {P : Type 0} (o : Option X) → ((x : X) → o ≡ Some x → ⊥) → IfNone o P → P
unless_some None none there = there
unless_some (Some x) none there = absurd (none x refl)
