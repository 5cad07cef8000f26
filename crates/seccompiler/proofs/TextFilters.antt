-- From what a text is read as to what is told of it, and what a value has under its names.
use Rattle.std.proofs.Common.{◌≡◌, ℕ, ◌++◌, List, ◌∷◌, Option, String, Global, [], Some, None, IfSome, string_bytes, refl, sym, ap, ◌∙◌}
use Rattle.std.proofs.Common.{subst}
use Rattle.serde_json.specs.Data.{Data}
use Rattle.serde_json.specs.Find.{get}
use Rattle.seccompiler.proofs.ByName.{ByName, AreInOrder, AreMade, found_there, found_in_front, made_under}
use Rattle.seccompiler.specs.JsonFilters.{AreFound, IsLeast, under}
use Rattle.seccompiler.specs.JsonShape.{Under}
use Rattle.seccompiler.specs.Reads.{Reads}

-- What holds of every text holds of the one that is read.
pub reads_some : (known : Option (List ℕ)) (P : List ℕ → Type 0) → ((text : List ℕ) → P text) → Reads known P
reads_some None P all = ([], tt, all [])
reads_some (Some text) P all = (text, refl, all text)

-- What is found under a name is that of the name's value.
pub value_under : {X : Type 0} (P : Data → X → Type 0) (find : List ℕ → Option X) (d : Data)
    → AreFound P find d → (name : List ℕ) (x : X) → find name ≡ Some x → Under d name (λ value. P value x)
value_under {X} P find d are name x there = by (get name d) refl
  where
    by : (o : Option Data) → get name d ≡ o → Under d name (λ value. P value x)
    by None lacks = let none : Some x ≡ None = sym there ∙ are.no_other name lacks in cc
    by (Some value) has =
        let own = are.each name value has in
        let same : own.found ≡ x = let both : Some own.found ≡ Some x = sym own.there ∙ there in cc in
        (value, has, subst (P value) same own.own)

-- What is made, value by value, of what a list has of a value's parts.
module _ {X Y : Type 0} (P : Data → X → Type 0) (R : X → Y → Type 0) (given : ByName X) (d : Data) (are : AreFound P (under given) d) where
  -- What is made of all of it is the value's, where it is so of one.
  pub all_made : (ys : ByName Y) → AreMade R given ys → (Q : Data → Y → Type 0)
      → ((value : Data) (x : X) (y : Y) → P value x → R x y → Q value y) → AreFound Q (under ys) d
  all_made ys h Q one = record {
    is_object = are.is_object;
    each = λ name value there.
        let known = are.each name value there in
        let made = rw known.there at (made_under R given ys h name) in
        record { found = made.0; there = made.1; own = one value known.found made.0 known.own made.2 };
    no_other = λ name none. rw (are.no_other name none) at (made_under R given ys h name);
  }

  -- Behind parts of which something is made, one that is at fault is that of the least name.
  pub least_wrong : (front : ByName X) (entry : String Global × X) (back : ByName X) → given ≡ front ++ entry ∷ back
      → AreInOrder given → (ys : ByName Y) → AreMade R front ys → (Wrong : X → Type 0) → Wrong entry.1
      → (Q : Data → Type 0) → ((value : Data) (x : X) (y : Y) → P value x → R x y → Q value)
      → IsLeast (λ value. (x : X) × P value x × Wrong x) Q d (string_bytes entry.0)
  least_wrong front entry back whole sorted ys h Wrong wrong Q one =
      let order = subst (λ (es : ByName X). AreInOrder es) whole sorted in
      let listed : (name : List ℕ) → under given name ≡ under (front ++ entry ∷ back) name = λ name. ap (λ es. under es name) whole in
      let own = value_under P (under given) d are (string_bytes entry.0) entry.1
      (listed (string_bytes entry.0) ∙ found_there front entry back order) in
      record {
        value = own.0;
        there = own.1;
        own = (entry.1, own.2, wrong);
        below = λ other value there less.
            let known = are.each other value there in
            let made = made_under R front ys h other in
            let made = rw (found_in_front front entry back order other known.found (sym (listed other) ∙ known.there) less) at made in
            one value known.found made.0 known.own made.2;
      }
