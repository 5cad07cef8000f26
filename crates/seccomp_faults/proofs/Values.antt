-- For `form`, `level` and `walk`: what JSON values have under keys and at places.
use Rattle.std.proofs.Common.{◌≡◌, ℕ, ◌<◌, List, [], ◌∷◌, ◌++◌, length, get_or, Option, Some, None, option_map, Bor, Less}
use Rattle.std.proofs.Common.{Greater, Bool, IfSome, string_bytes, string_cmp, nat_cmp, arith, refl, sym, ap, ◌∙◌}
use Rattle.std.specs.Prelude.{IsTrue, ◌==◌}
use Rattle.std.specs.Cmp.Lexicographic.{slice_cmp}
use Rattle.std.specs.List.{AllByRecursion}
use Rattle.std.specs.List.Sorted.{IsStrictlySortedBy}
use Rattle.std.specs.Map.{keys_of}
use Rattle.std.specs.Ordering.{ordering_reverse}
use Rattle.std.proofs.lemmas.Bool.Decides.{nat_tests}
use Rattle.std.proofs.lemmas.Cmp.{nat_list_cmp_total, tied_itself}
use Rattle.serde_json.specs.Data.{Data, array, no_items}
use Rattle.serde_json.specs.Find.{get_member, get_item}
use Rattle.serde_json.specs.View.{view, items_view, members_view}
use Rattle.serde_json.specs.declared.value.Value.{Value}
use Rattle.serde_json.proofs.Views.{Entry, get_item_within}
use Rattle.seccompiler.specs.declared.backend.SeccompAction.{SeccompAction}
use Rattle.seccompiler.specs.JsonShape.{IsOneAction}

-- An array is the empty one if its length is 0.
pub emptied : (vs : List Value) (n : ℕ) (r : Bool) → n ≡ length vs → r ≡ (n == 0)
    → (IsTrue r → array (items_view vs) ≡ array no_items) × (array (items_view vs) ≡ array no_items → IsTrue r)
emptied [] n r same is = (λ yes. refl, λ e. rw (is, same) refl)
emptied (v ∷ vs) n r same is = (λ yes. absurd (grind (arith, nat_tests, same, is, yes)), λ e. cc)

-- The action that is found is in the values that are looked at.
pub actions_are : (o p x y : Option Data) (r : Option SeccompAction) (a : SeccompAction) → IfSome r (IsOneAction o p) → r ≡ Some a → o ≡ x
    → p ≡ y → IsOneAction x y a
actions_are o p x y r a found is one two = rw (← one, ← two) (rw is at found)

below_middle : (first : Entry) (es : List Entry) (e : Entry) (more : List Entry)
    → AllByRecursion (λ y. string_cmp first.0 y ≡ Less) (keys_of (es ++ e ∷ more)) → string_cmp first.0 e.0 ≡ Less
below_middle first [] e more h = h.0
below_middle first (x ∷ es) e more h = below_middle first es e more h.1

-- Each member of an object, whose names ascend, is what is under its name.
pub member_there : (done : List Entry) (e : Entry) (more : List Entry) → IsStrictlySortedBy string_cmp (keys_of (done ++ e ∷ more))
    → get_member (string_bytes e.0) (members_view (done ++ e ∷ more)) ≡ Some (view e.1)
unfolding IsStrictlySortedBy
member_there [] e more h = rw (tied_itself nat_list_cmp_total (string_bytes e.0)) refl
member_there (first ∷ done) e more h =
    let above : slice_cmp nat_cmp (string_bytes e.0) (string_bytes first.0) ≡ Greater =
    nat_list_cmp_total.antisymm (string_bytes e.0) (string_bytes first.0) ∙ ap ordering_reverse (below_middle first done e more h.0) in
    rw above (member_there done e more h.1)

-- The value at a place of an array.
pub item_there : (vs : List Value) (i : ℕ) (v : Value) → i < length vs → v ≡ get_or vs i v → get_item i (items_view vs) ≡ Some (view v)
item_there vs i v inside is = sym (get_item_within vs i v inside) ∙ ap (λ w. Some (view w)) (sym is)

-- What is found by reference is what is there.
pub found_value : (o : Option (Bor Value)) (r : Bor Value) (found : Option Data) → option_map (λ v. view v.now) o ≡ found → o ≡ Some r
    → found ≡ Some (view r.now)
found_value o r found is some = sym is ∙ ap (option_map (λ v. view v.now)) some

-- If nothing is found by reference, nothing is there.
pub lacks_value : (o : Option (Bor Value)) (found : Option Data) → option_map (λ v. view v.now) o ≡ found → o ≡ None → found ≡ None
lacks_value o found is none = sym is ∙ ap (option_map (λ v. view v.now)) none
