-- The errors of the engines: how a refusal becomes one, their texts, and what they leave as it was.
use Rattle.std.specs.Prelude.{◌≡◌, ◌≢◌, ℕ, List, ◌++◌, Option, Some, codes, decimal, string_bytes, ⊤}
use Rattle.std.specs.IoError.{error_kind}
use Rattle.std.specs.declared.io.Error.{Error}
use Rattle.std.specs.declared.io.ErrorKind.TheVariants as kind
use Rattle.seccompiler.specs.declared.error.Error.{Error as LibraryError}
use Rattle.seccompiler.specs.declared.error.Error.TheVariants as library
use Rattle.seccompiler.specs.Errors.{error_text}
use Rattle.seccompc.specs.declared.error.ToolError.{ToolError}
use Rattle.seccompc.specs.declared.error.ToolError.TheVariants.{Library, Unopened, NoFilter, ShortRecord, Read, Write, OutOfMemory}

-- A refusal of the library; lack of memory stays lack of memory.
abbrev pub from_library : LibraryError → ToolError
from_library library.OutOfMemory = OutOfMemory
from_library refusal = Library refusal

-- The text of an error, if it is known.
abbrev pub tool_text : ToolError → Option (List ℕ)
tool_text (Library e) = error_text e
tool_text Unopened = Some (codes "Error opening the policy file.")
tool_text (NoFilter name) = Some (codes "No filter has this name: " ++ string_bytes name ++ codes ".")
tool_text (ShortRecord rest) = Some (codes "The input ends inside a record, after " ++ decimal rest ++ codes " bytes of it.")
tool_text (Read e) = Some (codes "Error reading input.")
tool_text (Write e) = Some (codes "Error writing output.")
tool_text OutOfMemory = Some (codes "Out of memory.")

-- A reader's fault of another kind than lack of memory.
abbrev pub IsReadFault : Error → Type 0
IsReadFault e = error_kind e ≢ kind.OutOfMemory

-- An error of writing.
abbrev pub IsWriteError : ToolError → Type 0
IsWriteError (Write e) = ⊤
IsWriteError e = ⊥

-- An error of reading to the end.
abbrev pub IsReadError : ToolError → Type 0
IsReadError (Read e) = IsReadFault e
IsReadError OutOfMemory = ⊤
IsReadError e = ⊥

-- An error of reading records and writing of them.
abbrev pub IsRecordsError : ToolError → Type 0
IsRecordsError (Read e) = IsReadFault e
IsRecordsError (ShortRecord rest) = ⊤
IsRecordsError (Write e) = ⊤
IsRecordsError OutOfMemory = ⊤
IsRecordsError e = ⊥

-- What is written is as it was, if the error comes before the writing.
abbrev pub KeepsOutput : {W : Type 0} → ToolError → W → W → Type 0
KeepsOutput (ShortRecord rest) old new = ⊤
KeepsOutput (Write e) old new = ⊤
KeepsOutput e old new = new ≡ old
