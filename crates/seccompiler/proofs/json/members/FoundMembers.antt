-- For `whole_number` and the readers of parts: what an object has under a name, if something was found there, or nothing; and texts.
use Rattle.std.proofs.Common.{◌≡◌, ℕ, List, Some, None, String, Global, string_bytes, ap, sym, ◌∙◌, subst, arith}
use Rattle.serde_json.specs.Data.{Data, string}
use Rattle.serde_json.specs.Find.{get}
use Rattle.serde_json.specs.View.{view}
use Rattle.serde_json.specs.declared.value.Value.{Value, the_lemmas}
use Rattle.serde_json.specs.declared.value.Value.TheVariants as v
use Rattle.seccompiler.specs.JsonShape.{Under}

-- What was found is all that is there.
pub own_found : (P : Data → Type 0) (d v : Data) (name : List ℕ) → Some v ≡ get name d → Under d name P → P v
own_found P d v name found is =
    let both : Some v ≡ Some is.0 = found ∙ is.1 in
    let same : v ≡ is.0 = cc in
    subst P (sym same) is.2

-- Nothing is there where nothing was found.
pub none_found : (P : Data → Type 0) (d : Data) (name : List ℕ) → None ≡ get name d → Under d name P → ⊥
none_found P d name none is = let both : None ≡ Some is.0 = none ∙ is.1 in cc

-- What a text is as data, and what no text is.
pub view_text : (text : String Global) → view (v.String text) ≡ string (string_bytes text)
view_text text = grind (arith, the_lemmas)

pub no_text : (value : Value) → ((text : String Global) → value ≡ v.String text → ⊥) → (bytes : List ℕ) → view value ≡ string bytes → ⊥
no_text value other bytes is = grind (arith, the_lemmas)

-- A text is no other text.
pub other_text : (d : Data) (text name : List ℕ) → d ≡ string text → (text ≡ name → ⊥) → d ≡ string name → ⊥
other_text d text name is other h =
    let both : string text ≡ string name = sym is ∙ h in
    let same : text ≡ name = cc in
    other same

-- A text that has these bytes is this text.
pub text_found : (value : Value) (text : String Global) (bytes name : List ℕ) → value ≡ v.String text
    → bytes ≡ string_bytes text → bytes ≡ name → view value ≡ string name
text_found value text bytes name is held same = ap view is ∙ view_text text ∙ ap string (sym held ∙ same)
