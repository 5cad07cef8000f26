-- For `lent_filters`: the filters that an object's members are, and its least name that is no filter's.
use Rattle.std.proofs.Common.{◌≡◌, ℕ, List, ◌∷◌, ◌++◌, Option, Some, None, option_map, string_bytes, refl, sym, ap, ◌∙◌, subst, arith}
use Rattle.serde_json.specs.Data.{Data, object}
use Rattle.serde_json.specs.Find.{get_member}
use Rattle.serde_json.specs.View.{view, members_view}
use Rattle.serde_json.specs.declared.value.Value.{Value}
use Rattle.serde_json.proofs.Views.{Entry, view-lookup}
use Rattle.seccompiler.specs.JsonFilters.{AreFound, IsLeastFault, under}
use Rattle.seccompiler.specs.JsonShape.{IsFilter}
use Rattle.seccompiler.specs.JsonTypes.{JsonFilter}
use Rattle.seccompiler.proofs.ByName.{ByName, AreInOrder, AreMade, by_text, found_there, found_in_front, made_under}

-- The value is this filter.
abbrev pub IsRead : Value → JsonFilter → Type 0
IsRead value f = IsFilter (view value) f

-- What an object has under a name is what stands under it among its members.
has : (name : List ℕ) (entries : List Entry) → get_member name (members_view entries) ≡ option_map view (under entries name)
has name entries = sym (view-lookup name entries) ∙ ap (option_map view) (by_text name entries)

viewed : (o : Option Value) (d : Data) → option_map view o ≡ Some d → (v : Value) × (o ≡ Some v) × (view v ≡ d)
viewed o d h = grind arith

not_viewed : (o : Option Value) → option_map view o ≡ None → o ≡ None
not_viewed o h = grind arith

-- What the members are has the object's filters.
pub are_filters : (entries : List Entry) (made : ByName JsonFilter) → AreMade IsRead entries made
    → AreFound IsFilter (under made) (object (members_view entries))
are_filters entries made are = record {
  is_object = (members_view entries, refl);
  each = λ name d there.
      let found = viewed (under entries name) d (sym (has name entries) ∙ there) in
      let own = rw found.1 at (made_under IsRead entries made are name) in
      record { found = own.0; there = own.1; own = subst (λ d. IsFilter d own.0) found.2 own.2 };
  no_other = λ name no. rw (not_viewed (under entries name) (sym (has name entries) ∙ no)) at (made_under IsRead entries made are name);
}

-- The value behind those that are filters, if it is none, is the least that is none.
pub least_fault : (front : List Entry) (e : Entry) (back : List Entry) (made : ByName JsonFilter) → AreInOrder (front ++ e ∷ back)
    → AreMade IsRead front made → ((f : JsonFilter) → IsFilter (view e.1) f → ⊥)
    → IsLeastFault (object (members_view (front ++ e ∷ back))) (string_bytes e.0)
least_fault front e back made sorted are none = record {
  value = view e.1;
  there = has (string_bytes e.0) (front ++ e ∷ back) ∙ ap (option_map view) (found_there front e back sorted);
  own = none;
  below = λ other d there below.
      let found = viewed (under (front ++ e ∷ back) other) d (sym (has other (front ++ e ∷ back)) ∙ there) in
      let own = rw (found_in_front front e back sorted other found.0 found.1 below) at (made_under IsRead front made are other) in
      (own.0, subst (λ d. IsFilter d own.0) found.2 own.2);
}
