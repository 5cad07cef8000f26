-- Names of filters, as listings have them.
use Rattle.std.specs.Prelude.{ℕ, ◌==◌, ◌||◌, Bool, if◌then◌else◌, List, [], ◌∷◌, ◌++◌, codes}
use Rattle.std.specs.Char.{is_ascii_control}
use Rattle.std.specs.List.{flat_map}
use Rattle.seccomp_text.specs.Hexadecimal.{hexadecimal}

-- The bytes of a name that are written by their numbers: 00 to 1f, 7f and the backslash.
abbrev pub is_escaped : ℕ → Bool
is_escaped byte = is_ascii_control byte || (byte == 92)

-- A byte by its number: `\x` and two hexadecimal digits.
abbrev pub byte_number : ℕ → List ℕ
byte_number byte = codes "\\x" ++ hexadecimal 2 byte

-- A byte of a name: by its number, or else the byte.
abbrev pub escaped_byte : ℕ → List ℕ
escaped_byte byte = if is_escaped byte then byte_number byte else byte ∷ []

-- A name, byte by byte.
abbrev pub escaped : List ℕ → List ℕ
escaped name = flat_map escaped_byte name
