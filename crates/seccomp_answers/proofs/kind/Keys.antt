-- For `has_key` and `has_text`: whether bytes stand in a text, and whether a value is an object with a text under a name.
use Rattle.std.proofs.Common.{◌≡◌, ◌∙◌, ℕ, Bool, true, List, Option, None, Some, arith, refl, subst, sym}
use Rattle.std.specs.Option.{is_some}
use Rattle.memchr.specs.Find.{FindsNeedle}
use Rattle.serde_json.specs.Data.{Data, string}
use Rattle.serde_json.specs.Find.{as_str, get}
use Rattle.seccomp_answers.specs.Kinds.{HasText, IsText, StandsIn}

-- They do if they are found, and else don't.
pub stand_if : (text part : List ℕ) (found : Option ℕ) → FindsNeedle text part 0 found
    → (is_some found ≡ true → StandsIn part text) × (StandsIn part text → is_some found ≡ true)
stand_if text part None nowhere =
    let no = λ (there : StandsIn part text). let fits = there.1.fits in nowhere there.0 (omega arith) (omega (arith, fits)) there.1 in
    (λ some. absurd cc, λ there. absurd (no there))
stand_if text part (Some place) found = (λ some. (place, found.1), λ there. refl)

-- A value is a text where serde_json's test says so.
string_tests : (value : Data) → (is_some (as_str value) ≡ true → IsText value) × (IsText value → is_some (as_str value) ≡ true)
string_tests (string s) = (λ yes. (s, refl), λ is. refl)
string_tests value = (λ yes. absurd cc, λ is. let apart = is.1 in absurd cc)

-- What stands under the name is a text where the test says so.
pub is_text : (name : List ℕ) (d value : Data) (test : Bool) → Some value ≡ get name d → test ≡ is_some (as_str value)
    → (test ≡ true → HasText name d) × (HasText name d → test ≡ true)
is_text name d value test found is = (
  λ yes. (value, sym found, (string_tests value).0 (sym is ∙ yes)),
  λ has.
      let same : Some has.0 ≡ Some value = sym has.1 ∙ sym found in
      let one : has.0 ≡ value = cc in
      is ∙ (string_tests value).1 (subst IsText one has.2),
)

pub no_text : (name : List ℕ) (d : Data) → None ≡ get name d → HasText name d → ⊥
no_text name d lacks has = let some : None ≡ Some has.0 = lacks ∙ has.1 in absurd cc
