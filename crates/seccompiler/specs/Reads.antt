-- What holds of the text that a reader gives, whether or not its type tells the bytes.
use Rattle.std.specs.Prelude.{◌≡◌, ℕ, List, Option, IfSome}

-- There is a text, the known one if it is known, for which P holds.
abbrev pub Reads : Option (List ℕ) → (List ℕ → Type 0) → Type 0
Reads known P = (text : List ℕ) × IfSome known (λ k. text ≡ k) × P text
