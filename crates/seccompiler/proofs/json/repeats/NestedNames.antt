-- For `after_names`: the names in a value and those behind it, and those in an object, its own and those inside its members.
use Rattle.std.proofs.Common.{◌≡◌, ℕ, ◌+◌, ◌-◌, ◌<◌, List, [], ◌∷◌, length, drop, get_or, refl, sym, ap, ◌∙◌, arith}
use Rattle.std.proofs.Common.{Vec, Global, String, BTreeMap}
use Rattle.std.proofs.lemmas.List.{at_drop_more}
use Rattle.serde_json.specs.View.{view, items_view, members_view}
use Rattle.serde_json.specs.declared.value.Value.{Value, the_lemmas}
use Rattle.serde_json.specs.declared.value.Value.TheVariants as v
use Rattle.serde_json.proofs.Views.{Entry}
use Rattle.seccompiler.specs.JsonRepeats.{names_in, names_in_items, names_in_members}

-- How many names values have from a place on.
abbrev pub names_from : List Value → ℕ → ℕ
names_from values i = names_in_items (items_view (drop i values))

pub names_next : (values : List Value) (i : ℕ) (value : Value) → i < length values → value ≡ get_or values i value
    → names_from values i ≡ names_in (view value) + names_from values (i + 1)
names_next values i value within is = at_drop_more (λ vs. names_in_items (items_view vs)) values i value within
    ∙ ap (λ w. names_in (view w) + names_from values (i + 1)) (sym is)

-- How many names the values of some members have.
abbrev pub names_below : List Entry → ℕ
names_below [] = 0
names_below (e ∷ entries) = names_in (view e.1) + names_below entries

pub own_and_inside : (entries : List Entry) → names_in_members (members_view entries) ≡ length entries + names_below entries
own_and_inside [] = refl
own_and_inside (e ∷ entries) = let rest = own_and_inside entries in omega (arith, rest)

-- A member's names are counted, and those of the others are left.
pub member_counted : (e : Entry) (it rest : List Entry) (left new own others k : ℕ) → it ≡ e ∷ rest → names_in (view e.1) ≡ own
    → new ≡ left - own → left - (names_below it + others) ≡ k → new - (names_below rest + others) ≡ k
member_counted e it rest left new own others k first is counted so_far =
    let so : left - (names_below (e ∷ rest) + others) ≡ k = rw first at so_far in omega (arith, so, is, counted)

pub none_less : (n : ℕ) → n ≡ n - 0
none_less n = omega arith

-- What is neither an array nor an object has none.
pub no_names : (value : Value) → ((items : Vec Value Global) → value ≡ v.Array items → ⊥)
    → ((members : BTreeMap (String Global) Value) → value ≡ v.Object members → ⊥) → names_in (view value) ≡ 0
no_names value no_array no_object = grind (arith, the_lemmas)
