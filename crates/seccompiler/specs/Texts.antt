-- The texts of the errors of the backend and of the front end, byte for byte.
use Rattle.std.specs.Prelude.{◌≡◌, ℕ, List, ◌++◌, codes, decimal, string_bytes, Option, Some, None, Result, IsOk, ⊤}
use Rattle.std.specs.Fmt.{signed_decimal, IsPlainFormatter, HasWritten}
use Rattle.std.specs.declared.fmt.Formatter.{Formatter}
use Rattle.std.specs.declared.fmt.Error as fmt
use Rattle.seccompiler.specs.Architecture.{arch_text}
use Rattle.seccompiler.specs.declared.backend.BackendError.{BackendError}
use Rattle.seccompiler.specs.declared.backend.BackendError.TheVariants.{EmptyRule, FilterTooLarge, IdenticalActions, InvalidArgumentNumber}
use Rattle.seccompiler.specs.declared.backend.BackendError.TheVariants.{InvalidTargetArch, InvalidSyscallNumber, OutOfMemory}
use Rattle.seccompiler.specs.declared.json.error.JsonFrontendError.{JsonFrontendError}
use Rattle.seccompiler.specs.declared.json.error.JsonFrontendError.TheVariants as frontend

-- The text of an error of the backend.
abbrev pub backend_text : BackendError → List ℕ
backend_text EmptyRule = codes "The condition vector of a rule cannot be empty."
backend_text (FilterTooLarge n) = codes "The seccomp filter contains too many BPF instructions: "
    ++ decimal n ++ codes ". Max length is 4096."
backend_text IdenticalActions = codes "`match_action` and `mismatch_action` are equal."
backend_text InvalidArgumentNumber = codes "The seccomp rule contains an invalid argument index. Maximum index value: 5"
backend_text (InvalidTargetArch t) = codes "Invalid target arch: " ++ string_bytes t ++ codes "."
backend_text (InvalidSyscallNumber n) = codes "Invalid syscall number: " ++ signed_decimal n ++ codes "."
backend_text OutOfMemory = codes "Out of memory."

-- The refusal of an architecture's name, with the text as it was given.
abbrev pub IsInvalidArch : BackendError → List ℕ → Type 0
IsInvalidArch (InvalidTargetArch t) text = string_bytes t ≡ text
IsInvalidArch _ text = ⊥

-- The text of an error of the front end, if all of it is known: that of `SerdeJson` ends in serde_json's own words.
abbrev pub json_text : JsonFrontendError → Option (List ℕ)
json_text (frontend.Backend e) = Some (backend_text e)
json_text (frontend.SerdeJson e) = None
json_text (frontend.SyscallName name arch) =
    Some (codes "Invalid syscall name: " ++ string_bytes name ++ codes " for given arch: " ++ arch_text arch ++ codes ".")
json_text (frontend.Read e) = Some (codes "Error reading Json.")
json_text frontend.RepeatedKey = Some (codes "Repeated key in Json.")
json_text frontend.NotAnObject = Some (codes "Json is not an object of filters.")
json_text (frontend.Shape name) = Some (codes "Json filter has a wrong shape: " ++ string_bytes name ++ codes ".")
json_text frontend.OutOfMemory = Some (codes "Out of memory.")

-- The text is that of the error of the front end; of `SerdeJson` it is known how it begins, and that further words may follow.
abbrev pub IsJsonText : JsonFrontendError → List ℕ → Type 0
IsJsonText (frontend.SerdeJson e) text = (words : List ℕ) × (text ≡ codes "Error parsing Json: " ++ words)
IsJsonText e text = json_text e ≡ Some text

-- If Ok is answered to a formatter without options, it then has written a text for which P holds, and nothing else.
abbrev pub WritesOne : {W : Type 0} → (W → List ℕ → W → Type 0) → (List ℕ → Type 0) → Formatter W → Result ⊤ fmt.Error
    → Formatter W → Type 0
WritesOne took P before answer after =
    IsPlainFormatter before → IsOk answer → (text : List ℕ) × P text × HasWritten took before text after
