-- The filter that a command is asked for: the one that is named, or the policy's only one.
use Rattle.std.specs.Prelude.{◌≡◌, ℕ, List, Option, Some, None, option_map}
use Rattle.std.specs.Borrow.{Bor}
use Rattle.serde_json.specs.Data.{Data}
use Rattle.seccompiler.specs.JsonAnswers.{OfValue}
use Rattle.seccompiler.specs.JsonShape.{Has, IsFilter, Under}
use Rattle.seccompiler.specs.JsonTypes.{JsonFilter}

-- The bytes of a text, if there is one.
abbrev pub text_of : Option (Bor (List ℕ)) → Option (List ℕ)
text_of = option_map (λ t. t.now)

-- The value has this name and no other.
pub record HasOnlyName (d : Data) (name : List ℕ) : Type 0 where
  pub value : Data
  pub there : Has d name value
  pub only : (other : List ℕ) (v : Data) → Has d other v → other ≡ name

-- The name is the one that is asked for; or, if none is, the only one of the text's value.
abbrev pub IsChosen : List ℕ → Option (List ℕ) → List ℕ → Type 0
IsChosen text (Some asked) name = name ≡ asked
IsChosen text None name = OfValue text (λ d. HasOnlyName d name)

-- Something is found under this name, and under no other.
pub record IsOnly {V : Type 0} (find : List ℕ → Option V) (name : List ℕ) : Type 0 where
  pub value : V
  pub there : find name ≡ Some value
  pub only : (other : List ℕ) (v : V) → find other ≡ Some v → other ≡ name

-- The name is the one that is asked for; or, if none is, the only one under which something is found.
abbrev pub IsNamed : {V : Type 0} → Option (List ℕ) → (List ℕ → Option V) → List ℕ → Type 0
IsNamed (Some asked) find name = name ≡ asked
IsNamed None find name = IsOnly find name

-- A filter is found under the name, and the text's value has it there.
pub record HasNamed (text : List ℕ) (find : List ℕ → Option JsonFilter) (name : List ℕ) : Type 0 where
  pub filter : JsonFilter
  pub found : find name ≡ Some filter
  pub of_text : OfValue text (λ d. Under d name (λ value. IsFilter value filter))
