-- What an engine answers, and what it adds to what is written.
use Rattle.std.specs.Prelude.{ℕ, ◌<◌, List, Option, Result, Ok, Err, ⊤}
use Rattle.std.specs.Io.KnownBytes.{Appends}
use Rattle.seccompiler.specs.Reads.{Reads}
use Rattle.seccompc.specs.Errors.{IsReadFault}
use Rattle.seccompc.specs.Records.{WritesLines}
use Rattle.seccompc.specs.declared.error.ToolError.{ToolError}
use Rattle.seccompc.specs.declared.error.ToolError.TheVariants.{ShortRecord, Read, Write}

-- The answer of an engine that writes one text at once: it is Ok only if there is a text that is as IsText says, and
-- that is written. Of a failed write there is such a text too. Any other error is as IsRefused says.
abbrev pub Answers : (IsText : List ℕ → Type 0) → (IsRefused : ToolError → Type 0) → Result ⊤ ToolError → (old new : Option (List ℕ))
    → Type 0
Answers IsText IsRefused (Ok done) old new = (text : List ℕ) × IsText text × Appends old new text
Answers IsText IsRefused (Err (Write e)) old new = (text : List ℕ) × IsText text
Answers IsText IsRefused (Err e) old new = IsRefused e

-- The answer of an engine that reports on records: it is Ok only if the text of all records is written. If
-- bytes are left after the last whole record, it reports their number, and the text of the whole records is
-- written. Reading the records, or writing, fails only if all is ready for it. IsRefused defines any other
-- error.
abbrev pub AnswersOnRecords : (IsReady : Type 0) → (IsTextOf : List (List ℕ) → List ℕ → Type 0) → (IsRefused : ToolError → Type 0)
    → (records : Option (List ℕ)) → Result ⊤ ToolError → (old new : Option (List ℕ)) → Type 0
AnswersOnRecords IsReady IsTextOf IsRefused records (Ok done) old new = Reads records (λ bytes. WritesLines IsTextOf bytes 0 old new)
AnswersOnRecords IsReady IsTextOf IsRefused records (Err (ShortRecord rest)) old new =
    (0 < rest) × Reads records (λ bytes. WritesLines IsTextOf bytes rest old new)
AnswersOnRecords IsReady IsTextOf IsRefused records (Err (Read e)) old new = IsReadFault e × IsReady
AnswersOnRecords IsReady IsTextOf IsRefused records (Err (Write e)) old new = IsReady
AnswersOnRecords IsReady IsTextOf IsRefused records (Err e) old new = IsRefused e
