-- Records of system calls, one after the other, and what is written for them.
use Rattle.std.specs.Prelude.{◌≡◌, ℕ, ◌<◌, List, ◌++◌, length, All, Option, Result, Ok, Err, ⊤}
use Rattle.std.specs.Io.KnownBytes.{Appends}
use Rattle.std.specs.List.{concat}
use Rattle.seccompc.specs.declared.error.ToolError.{ToolError}
use Rattle.seccompc.specs.declared.error.ToolError.TheVariants.{ShortRecord}

-- The bytes are these records of 64 bytes, one after the other, and then a rest that is shorter.
pub record IsCutIntoRecords (bytes : List ℕ) (records : List (List ℕ)) (rest : List ℕ) : Type 0 where
  pub joined : bytes ≡ concat records ++ rest
  pub whole : All (λ call. length call ≡ 64) records
  pub short : length rest < 64

-- What is written grew by the text of the whole records of these bytes, and so many bytes are left after them.
pub record WritesLines (IsTextOf : List (List ℕ) → List ℕ → Type 0) (bytes : List ℕ) (rest : ℕ) (old new : Option (List ℕ)) : Type 0 where
  pub records : List (List ℕ)
  pub tail : List ℕ
  pub cut : IsCutIntoRecords bytes records tail
  pub left : length tail ≡ rest
  pub text : List ℕ
  pub told : IsTextOf records text
  pub appends : Appends old new text

-- The answer on these bytes: the text of all records is written if no byte is left, and that of the whole ones, with
-- the number of bytes that are left, if some are.
abbrev pub AnswersRecords : (List (List ℕ) → List ℕ → Type 0) → List ℕ → Result ⊤ ToolError → Option (List ℕ) → Option (List ℕ) → Type 0
AnswersRecords IsTextOf bytes (Ok done) old new = WritesLines IsTextOf bytes 0 old new
AnswersRecords IsTextOf bytes (Err (ShortRecord rest)) old new = (0 < rest) × WritesLines IsTextOf bytes rest old new
AnswersRecords IsTextOf bytes (Err e) old new = ⊤
