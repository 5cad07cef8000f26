-- When a text has more colons outside strings than a value has names.
use Rattle.std.specs.Prelude.{◌≡◌, ℕ, ◌+◌, ◌<◌, List, count_by}
use Rattle.serde_json.specs.Data.{Data, null, boolean, number, string, array, object, Items, no_items, item, Members, no_members, member}
use Rattle.seccompiler.specs.TextPieces.{Piece, Ending, IsCutIntoPieces, is_colon}

-- How many names all objects in a value have, those inside others too.
abbrev mutual
  pub names_in : Data → ℕ
  names_in null = 0
  names_in (boolean b) = 0
  names_in (number n) = 0
  names_in (string s) = 0
  names_in (array items) = names_in_items items
  names_in (object members) = names_in_members members

  pub names_in_items : Items → ℕ
  names_in_items no_items = 0
  names_in_items (item d items) = names_in d + names_in_items items

  pub names_in_members : Members → ℕ
  names_in_members no_members = 0
  names_in_members (member name d members) = 1 + names_in d + names_in_members members

-- The text has a cut into pieces of which so many are a colon.
abbrev pub HasColons : List ℕ → ℕ → Type 0
HasColons text count = (pieces : List Piece) × (ending : Ending) × IsCutIntoPieces text pieces ending × (count ≡ count_by is_colon pieces)

-- The text, cut into pieces, has more pieces that are a colon than the value has names.
pub record Repeats (text : List ℕ) (value : Data) : Type 0 where
  pub count : ℕ
  pub colons : HasColons text count
  pub more : names_in value < count
