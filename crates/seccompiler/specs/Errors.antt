-- The errors: how a refusal of one module becomes one of another, the text of the crate's, and where lack of memory stands.
use Rattle.std.specs.Prelude.{◌≡◌, ◌≢◌, ℕ, List, ◌++◌, Option, Some, option_map, codes, ⊤}
use Rattle.std.specs.Fmt.{signed_decimal}
use Rattle.std.specs.IoError.{error_kind}
use Rattle.serde_json.specs.Errors.{IsMemory}
use Rattle.seccompiler.specs.declared.backend.BackendError.{BackendError}
use Rattle.seccompiler.specs.declared.error.Error.{Error}
use Rattle.seccompiler.specs.declared.json.error.JsonFrontendError.{JsonFrontendError}
use Rattle.seccompiler.specs.Texts.{json_text, IsJsonText, backend_text}
use Rattle.seccompiler.specs.JsonSteps.{IsNoFailedRead}
use Rattle.std.specs.declared.io.ErrorKind.TheVariants as kind
use Rattle.seccompiler.specs.declared.backend.BackendError.TheVariants as backend
use Rattle.seccompiler.specs.declared.error.Error.TheVariants as whole
use Rattle.seccompiler.specs.declared.json.error.JsonFrontendError.TheVariants as frontend

-- A refusal of the backend as one of the front end; lack of memory stays lack of memory.
abbrev pub frontend_refusal : BackendError → JsonFrontendError
frontend_refusal backend.OutOfMemory = frontend.OutOfMemory
frontend_refusal refusal = frontend.Backend refusal

-- A refusal of the backend; lack of memory stays lack of memory.
abbrev pub from_backend : BackendError → Error
from_backend backend.OutOfMemory = whole.OutOfMemory
from_backend refusal = whole.Backend refusal

-- A refusal of the front end; lack of memory stays lack of memory.
abbrev pub from_frontend : JsonFrontendError → Error
from_frontend frontend.OutOfMemory = whole.OutOfMemory
from_frontend refusal = whole.JsonFrontend refusal

-- The text of an error, if all of it is known: that of JSON that can't be read ends in serde_json's own words.
abbrev pub error_text : Error → Option (List ℕ)
error_text (whole.Backend e) = Some (codes "Backend error: " ++ backend_text e)
error_text whole.EmptyFilter = Some (codes "Cannot install empty filter.")
error_text (whole.Prctl number) = Some (codes "Error calling `prctl`: " ++ signed_decimal number)
error_text (whole.Seccomp number) = Some (codes "Error calling `seccomp`: " ++ signed_decimal number)
error_text (whole.ThreadSync thread) =
    Some (codes "Seccomp filter synchronization failed in thread `" ++ signed_decimal thread ++ codes "`")
error_text (whole.JsonFrontend e) = option_map (λ text. codes "Json Frontend error: " ++ text) (json_text e)
error_text whole.OutOfMemory = Some (codes "Out of memory.")

-- The text is that of the error; if it ends in serde_json's own words, it is known how it begins.
abbrev pub IsErrorText : Error → List ℕ → Type 0
IsErrorText (whole.JsonFrontend e) text = (inner : List ℕ) × IsJsonText e inner × (text ≡ codes "Json Frontend error: " ++ inner)
IsErrorText e text = error_text e ≡ Some text

-- Lack of memory is in the front end's error itself, if it is at fault, and nowhere inside.
abbrev pub IsNoMemoryInFrontend : JsonFrontendError → Type 0
IsNoMemoryInFrontend (frontend.Backend e) = e ≢ backend.OutOfMemory
IsNoMemoryInFrontend (frontend.SerdeJson e) = ¬ IsMemory e
IsNoMemoryInFrontend (frontend.Read e) = error_kind e ≢ kind.OutOfMemory
IsNoMemoryInFrontend e = ⊤

-- The same of the crate's error.
abbrev pub IsNoMemoryInside : Error → Type 0
IsNoMemoryInside (whole.Backend e) = e ≢ backend.OutOfMemory
IsNoMemoryInside (whole.JsonFrontend e) = (e ≢ frontend.OutOfMemory) × IsNoMemoryInFrontend e
IsNoMemoryInside e = ⊤

-- The error is not that a reader failed.
abbrev pub IsNoReader : Error → Type 0
IsNoReader (whole.JsonFrontend e) = IsNoFailedRead e
IsNoReader e = ⊤
