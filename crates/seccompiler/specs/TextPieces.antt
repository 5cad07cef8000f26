-- A text as a sequence of pieces: bytes, and strings in quotes. It needs not be JSON.
use Rattle.std.specs.Prelude.{◌≡◌, ◌≢◌, ℕ, ◌==◌, List, [], ◌∷◌, ◌++◌, Bool, false, flat_map}

-- What is in a string: a byte other than a quote (34) or a backslash (92), or a backslash with the byte after it, whichever that is.
pub data StringItem : Type 0 where
  plain : (b : ℕ) → b ≢ 34 → b ≢ 92 → StringItem
  escaped : ℕ → StringItem

-- The bytes of an item.
abbrev pub item_bytes : StringItem → List ℕ
item_bytes (plain b no_quote no_backslash) = b ∷ []
item_bytes (escaped b) = 92 ∷ b ∷ []

-- The bytes of a string's items.
abbrev pub items_bytes : List StringItem → List ℕ
items_bytes = flat_map item_bytes

-- A piece of a text: a byte outside strings, which is no quote, or a string with its two quotes.
pub data Piece : Type 0 where
  byte : (b : ℕ) → b ≢ 34 → Piece
  quoted : List StringItem → Piece

-- The bytes of a piece.
abbrev pub piece_bytes : Piece → List ℕ
piece_bytes (byte b no_quote) = b ∷ []
piece_bytes (quoted items) = 34 ∷ (items_bytes items ++ 34 ∷ [])

-- How a text ends: after a whole piece, or in a string that is not closed, whose last byte may be a backslash with nothing after it.
pub data Ending : Type 0 where
  closed : Ending
  unclosed : List StringItem → Ending
  unclosed_backslash : List StringItem → Ending

-- The bytes of an ending.
abbrev pub ending_bytes : Ending → List ℕ
ending_bytes closed = []
ending_bytes (unclosed items) = 34 ∷ items_bytes items
ending_bytes (unclosed_backslash items) = 34 ∷ (items_bytes items ++ 92 ∷ [])

-- The text is these pieces and this ending, one after the other.
abbrev pub IsCutIntoPieces : List ℕ → List Piece → Ending → Type 0
IsCutIntoPieces text pieces ending = text ≡ flat_map piece_bytes pieces ++ ending_bytes ending

-- The piece is the one byte `:` (58).
abbrev pub is_colon : Piece → Bool
is_colon (byte b no_quote) = b == 58
is_colon (quoted items) = false
