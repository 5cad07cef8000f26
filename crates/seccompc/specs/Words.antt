-- The words that the program is called with, and the command that they are.
use Rattle.std.specs.Prelude.{◌≡◌, ℕ, ℤ, pos, neg_ℤ, ◌≤ℤ◌, ◌<ℤ◌, ◌^◌, ◌<◌, List, [], ◌∷◌, ◌++◌, codes}
use Rattle.seccomp_text.specs.Numbers.{IsWritten}
use Rattle.seccompc.specs.declared.words.Command.{Command}
use Rattle.seccompc.specs.declared.words.Command.TheVariants.{Probe, List as Listing, Run}

-- The text is decimal digits, one or more, with one `-` in front or none, and they write this number.
pub data IsSignedText (text : List ℕ) (z : ℤ) : Type 0 where
  unsigned : (n : ℕ) → IsWritten 10 text n → z ≡ pos n → IsSignedText text z
  after_minus : (digits : List ℕ) (n : ℕ) → text ≡ codes "-" ++ digits → IsWritten 10 digits n → z ≡ neg_ℤ (pos n) → IsSignedText text z

-- A number that 64 bits hold, the sign among them.
abbrev pub IsSigned64 : ℤ → Type 0
IsSigned64 z = (neg_ℤ (pos (2 ^ 63)) ≤ℤ z) × (z <ℤ pos (2 ^ 63))

-- The words ask for a probe with this architecture's name, call number, argument index and value.
pub record IsProbe (words : List (List ℕ)) (arch : List ℕ) (nr : ℤ) (index value : ℕ) : Type 0 where
  pub nr_text : List ℕ
  pub index_text : List ℕ
  pub value_text : List ℕ
  pub all : words ≡ codes "probe" ∷ arch ∷ nr_text ∷ index_text ∷ value_text ∷ []
  pub nr_written : IsSignedText nr_text nr
  pub nr_fits : IsSigned64 nr
  pub index_written : IsWritten 10 index_text index
  pub index_fits : index < 2 ^ 8
  pub value_written : IsWritten 10 value_text value

-- The words are this command.
abbrev pub IsCommand : List (List ℕ) → Command → Type 0
IsCommand words (Probe arch nr index value) = IsProbe words arch.now nr index value
IsCommand words (Listing arch) = words ≡ codes "list" ∷ arch.now ∷ []
IsCommand words (Run arch file name) = words ≡ codes "run" ∷ arch.now ∷ file.now ∷ name.now ∷ []
