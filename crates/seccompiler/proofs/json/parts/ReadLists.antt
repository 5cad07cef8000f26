-- For `read_args` and `read_rules`: how far a loop has read the values of an array, one by one.
use Rattle.std.proofs.Common.{◌≡◌, ℕ, ◌+◌, ◌<◌, ◌≤◌, List, [], ◌∷◌, ◌++◌, length, get_or, drop, sym, subst, append_assoc, arith}
use Rattle.std.proofs.lemmas.List.{append-nil, drop_all, drop_more}
use Rattle.serde_json.specs.Data.{Data, Items, item}
use Rattle.serde_json.specs.View.{view, items_view}
use Rattle.serde_json.specs.declared.value.Value.{Value}
use Rattle.seccompiler.specs.JsonShape.{OneByOne}

-- All values but those that are left are read, as `done`: whatever the others are, all are `done` and that; and the
-- others are something, if all are.
pub record IsRead {X : Type 0} (P : Data → X → Type 0) (all left : List Value) (done : List X) : Type 0 where
  pub joined : (xs : List X) → OneByOne P (items_view left) xs → OneByOne P (items_view all) (done ++ xs)
  pub others : (xs : List X) → OneByOne P (items_view all) xs → (ys : List X) × OneByOne P (items_view left) ys

module _ {X : Type 0} (P : Data → X → Type 0) where
  behind_first : (d : Data) (others : Items) (xs : List X) → OneByOne P (item d others) xs
      → (x : X) × (ys : List X) × P d x × OneByOne P others ys
  behind_first d others xs h = grind arith

  module _ (all left more : List Value) (done : List X) (v : Value) (so_far : IsRead P all left done) (first : left ≡ v ∷ more) where
    rest : (xs : List X) → OneByOne P (items_view all) xs → (x : X) × (ys : List X) × P (view v) x × OneByOne P (items_view more) ys
    rest xs h = grind (arith, behind_first)

    goes_on : (x : X) → P (view v) x → IsRead P all more (done ++ x ∷ [])
    goes_on x read = grind (arith, append_assoc, rest)

    fails : ((x : X) → P (view v) x → ⊥) → (xs : List X) → OneByOne P (items_view all) xs → ⊥
    fails none xs h = let parts = rest xs h in none parts.0 parts.2

  -- The values are read by an index, which has come so far.
  module _ (all : List Value) (i : ℕ) (done : List X) (so_far : IsRead P all (drop i all) done) where
    module _ (v : Value) (within : i < length all) (is : v ≡ get_or all i v) where
      left : drop i all ≡ v ∷ drop (i + 1) all
      left = subst (λ w. drop i all ≡ w ∷ drop (i + 1) all) (sym is) (drop_more all i v within)

      pub next_read : (x : X) → P (view v) x → IsRead P all (drop (i + 1) all) (done ++ x ∷ [])
      next_read = goes_on all _ _ done v so_far left

      pub next_fails : ((x : X) → P (view v) x → ⊥) → (xs : List X) → OneByOne P (items_view all) xs → ⊥
      next_fails = fails all _ _ done v so_far left

    pub all_read : length all ≤ i → OneByOne P (items_view all) done
    all_read past = subst (OneByOne P (items_view all)) (append-nil done)
        (so_far.joined [] (rw (drop_all i all past) tt))
