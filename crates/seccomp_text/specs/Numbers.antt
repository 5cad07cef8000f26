-- Numbers as they are written in words.
use Rattle.std.specs.Prelude.{◌≡◌, ℕ, ◌^◌, ◌<◌, List}
use Rattle.std.specs.Str.Parse.{IsNumeral, digits_value}

-- The text is one digit of this radix or more and nothing else, and they write this number, which 64 bits hold.
pub record IsWritten (radix : ℕ) (text : List ℕ) (n : ℕ) : Type 0 where
  pub digits : IsNumeral radix text
  pub value : n ≡ digits_value radix text
  pub fits : n < 2 ^ 64
