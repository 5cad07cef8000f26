-- For `chosen_name`: whether a map has one entry, and what its name is in a text of filters.
use Rattle.std.proofs.Common.{◌≡◌, ℕ, zero, suc, List, [], ◌∷◌, length, map, Option, Some, None, Contains, String, Global}
use Rattle.std.proofs.Common.{true, string_bytes, string_cmp, string_eq, bytes_eq, refl, sym, ap, subst, ◌∙◌, arith}
use Rattle.std.specs.BTreeMap.{is_at}
use Rattle.std.specs.Prelude.{slice_get}
use Rattle.std.specs.List.{IsDistinct}
use Rattle.std.specs.List.Sorted.{IsStrictlySortedBy}
use Rattle.std.specs.Map.{keys_of, lookup}
use Rattle.std.proofs.lemmas.Map.Keys.{IsDistinct-from_sorted}
use Rattle.std.proofs.lemmas.Map.Text.{is_eq-slice_cmp, text_cmp}
use Rattle.std.proofs.lemmas.Slice.Eq.{bytes_eq-Decides}
use Rattle.seccompiler.specs.JsonAnswers.{OfValue}
use Rattle.seccompiler.specs.JsonFilters.{AreFound}
use Rattle.seccompiler.specs.JsonShape.{IsFilter}
use Rattle.seccompiler.specs.JsonTypes.{JsonFilter}
use Rattle.seccomp_answers.proofs.ByName.{by_text, found_name, found_there}
use Rattle.seccomp_answers.proofs.Found.{there}
use Rattle.seccomp_answers.specs.Chosen.{IsChosen, IsNamed, IsOnly}

-- The one item of a list is the one that it contains.
one_item : {X : Type 0} (x y : X) → Contains (x ∷ []) y → y ≡ x
one_item x y (zero, below, is) = sym is
one_item x y (suc k, below, is) = absurd (omega (arith, below))

-- A list of one item is that item.
single : {X : Type 0} (xs : List X) (x : X) → length xs ≡ 1 → slice_get xs 0 ≡ Some x → xs ≡ x ∷ []
single [] x one first = absurd (omega (arith, one))
single (y ∷ []) x one first = let same : y ≡ x = cc in ap (λ z. z ∷ []) same
single (y ∷ z ∷ xs) x one first = absurd (omega (arith, one))

-- The name of one entry is the only one.
pub only_entry : {X : Type 0} (entries : List (String Global × X)) → IsStrictlySortedBy string_cmp (keys_of entries)
    → (key : String Global) (x : X) (name : List ℕ) → length entries ≡ 1 → slice_get entries 0 ≡ Some (key, x)
    → name ≡ string_bytes key → IsOnly (λ n. lookup (is_at (text_cmp n)) entries) name
only_entry {X} entries order key x name one first is =
    let listed : entries ≡ (key, x) ∷ [] = single entries (key, x) one first in
    record {
      value = x;
      there = subst (λ n. lookup (is_at (text_cmp n)) entries ≡ Some x) (sym is) (by_text (string_bytes key) entries
          ∙ found_there entries (key, x) order (subst (λ es. Contains es (key, x)) (sym listed) (0, omega arith, refl)));
      only = λ other y found. one_item (string_bytes key) other (subst (λ (es : List (String Global × X)). Contains
          (map (λ (e : String Global × X). string_bytes e.0) es) other) listed
          (found_name other y entries (sym (by_text other entries) ∙ found))) ∙ sym is;
    }

-- In order, two entries have different names.
two_names : (a b : String Global) (names : List (String Global)) → IsStrictlySortedBy string_cmp (a ∷ b ∷ names)
    → string_bytes a ≡ string_bytes b → ⊥
unfolding IsDistinct
two_names a b names order same =
    let apart : IsDistinct string_eq (a ∷ b ∷ names) = subst (λ e. IsDistinct e (a ∷ b ∷ names))
    (λ i x y. is_eq-slice_cmp (string_bytes x) (string_bytes y) i) (IsDistinct-from_sorted string_cmp (a ∷ b ∷ names) order) in
    let equal : bytes_eq (string_bytes a) (string_bytes b) ≡ true = (bytes_eq-Decides (string_bytes a) (string_bytes b)).1 same in
    let no = rw equal at apart.0 in
    cc

-- If there isn't one entry, no name is the only one.
pub not_one : {X : Type 0} (entries : List (String Global × X)) → IsStrictlySortedBy string_cmp (keys_of entries)
    → (length entries ≡ 1 → ⊥) → (name : List ℕ) → IsOnly (λ n. lookup (is_at (text_cmp n)) entries) name → ⊥
not_one [] order many name is = let none : Some is.value ≡ None = sym is.there in cc
not_one (a ∷ []) order many name is = many refl
not_one {X} (a ∷ b ∷ rest) order many name is =
    let entries : List (String Global × X) = a ∷ b ∷ rest in
    let first = is.only (string_bytes a.0) a.1 (by_text (string_bytes a.0) entries ∙ found_there entries a order (0, omega arith, refl)) in
    let second = is.only (string_bytes b.0) b.1 (by_text (string_bytes b.0) entries ∙ found_there entries b order (1, omega arith, refl)) in
    two_names a.0 b.0 (keys_of rest) order (first ∙ sym second)

-- If nothing is found under the name, it is the one that is asked for.
pub asked_for : {X : Type 0} (find : List ℕ → Option X) (asked : Option (List ℕ)) (name : List ℕ) → IsNamed asked find name
    → find name ≡ None → asked ≡ Some name
asked_for find (Some asked) name is none = ap Some (sym is)
asked_for find None name is none = let no : Some is.value ≡ None = sym is.there ∙ none in cc

-- The name is chosen of the text whose filters these are.
pub chosen_in : (text : List ℕ) (find : List ℕ → Option JsonFilter) → OfValue text (AreFound IsFilter find)
    → (asked : Option (List ℕ)) (name : List ℕ) → IsNamed asked find name → IsChosen text asked name
chosen_in text find read (Some asked) name is = is
chosen_in text find read None name is =
    let under = there IsFilter find read.0 read.2 name is.value is.there in (
      read.0,
      read.1,
      record {
        value = under.0;
        there = under.1;
        only = λ other v has. let own = read.2.each other v has in is.only other own.found own.there;
      },
    )
