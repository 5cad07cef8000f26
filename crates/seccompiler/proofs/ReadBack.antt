-- What a map by names has of a value, read from the map: name by name, and entry by entry.
use Rattle.std.proofs.Common.{◌≡◌, ℕ, suc, List, [], ◌∷◌, Option, Some, None, String, Global, Less, Contains, string_bytes}
use Rattle.std.proofs.Common.{string_cmp, nat_cmp, bytes_eq, map, refl, sym, ◌∙◌, inl, inr, arith}
use Rattle.std.specs.BTreeMap.{BTreeMap, IsOrdered, get_by_text}
use Rattle.std.specs.Cmp.Lexicographic.{slice_cmp}
use Rattle.std.specs.List.{AllByRecursion}
use Rattle.std.specs.List.Sorted.{IsStrictlySortedBy}
use Rattle.std.specs.Map.{keys_of}
use Rattle.std.specs.String.{string_eq_equiv}
use Rattle.std.proofs.lemmas.Bool.{cases_Bool}
use Rattle.std.proofs.lemmas.List.Elements.{All-weaker, All-contains_itself}
use Rattle.std.proofs.lemmas.Map.Views.{lookup-from_Contains}
use Rattle.std.proofs.lemmas.Slice.Eq.{bytes_eq-Decides}
use Rattle.serde_json.specs.Data.{Data}
use Rattle.serde_json.specs.Find.{get}
use Rattle.seccompiler.specs.JsonFilters.{AreFound, IsReadBack, under}
use Rattle.seccompiler.specs.JsonShape.{Under, Lacks}
use Rattle.seccompiler.proofs.ByName.{ByName, AreInOrder, by_text, once}
use Rattle.seccompiler.proofs.TextFilters.{value_under}

module _ {X : Type 0} where
  -- The names are in byte order.
  above_all : (first : String Global) (entries : ByName X) → AllByRecursion (λ y. string_cmp first y ≡ Less) (keys_of entries)
      → AllByRecursion (λ y. slice_cmp nat_cmp (string_bytes first) y ≡ Less) (map (λ e. string_bytes e.0) entries)
  above_all first [] all = tt
  above_all first (e ∷ entries) all = (all.0, above_all first entries all.1)

  names_ordered : (entries : ByName X) → AreInOrder entries → IsStrictlySortedBy (slice_cmp nat_cmp) (map (λ e. string_bytes e.0) entries)
  unfolding IsStrictlySortedBy
  names_ordered [] order = tt
  names_ordered (e ∷ entries) order = (above_all e.0 entries order.0, names_ordered entries order.1)

  -- A name that is found is there.
  found_name : (q : List ℕ) (x : X) (entries : ByName X) → under entries q ≡ Some x → Contains (map (λ e. string_bytes e.0) entries) q
  found_name q x [] there = cc
  found_name q x (e ∷ entries) there = elim (cases_Bool (bytes_eq q (string_bytes e.0))) [
    | inl t ↦ (0, omega arith, sym ((bytes_eq-Decides q (string_bytes e.0)).0 t))
    | inr f ↦ let behind = found_name q x entries (rw f at there) in (suc behind.0, omega (arith, behind.1), behind.2)
  ]

module _ {X : Type 0} (P : Data → X → Type 0) (m : BTreeMap (String Global) X) (order : IsOrdered string_cmp m) (d : Data)
    (are : AreFound P (get_by_text m) d) where
  -- If nothing is found, the name is not there.
  nowhere : (name : List ℕ) → get_by_text m name ≡ None → Lacks d name
  nowhere name none = by (get name d) refl
    where
      by : (o : Option Data) → get name d ≡ o → Lacks d name
      by None lacks = lacks
      by (Some value) has = let own = are.each name value has in let some : Some own.found ≡ None = sym own.there ∙ none in cc

  -- Each entry is found under its name, and so stands for the value of the name.
  entry_there : (e : String Global × X) → Contains m.entries e → Under d (string_bytes e.0) (λ value. P value e.1)
  entry_there e among =
      value_under P (get_by_text m) d are (string_bytes e.0) e.1 (by_text (string_bytes e.0) m.entries
      ∙ lookup-from_Contains string_eq_equiv e.0 e.1 m.entries (once m.entries order) among)

  -- What a map in order has of a value can be read from it.
  pub read_back : IsReadBack P m d
  read_back = record {
    there = value_under P (get_by_text m) d are;
    nowhere = nowhere;
    entries = record {
      ordered = names_ordered m.entries order;
      each = All-weaker (Contains m.entries) (λ e. Under d (string_bytes e.0) (λ value. P value e.1)) entry_there m.entries
          (All-contains_itself m.entries);
      complete = λ name value has.
          let own = are.each name value has in
          found_name name own.found m.entries (sym (by_text name m.entries) ∙ own.there);
    };
  }
