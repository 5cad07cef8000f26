-- Which architecture a text names, what is read of a policy, and the first fault of both.
use Rattle.std.specs.Prelude.{◌≡◌, ◌≢◌, ℕ, List, Option, String, string_bytes, ⊤}
use Rattle.std.specs.Str.{str_to_ascii_lowercase}
use Rattle.std.specs.declared.alloc.Global.{Global}
use Rattle.serde_json.specs.Data.{Data}
use Rattle.seccompiler.specs.declared.backend.TargetArch.{TargetArch}
use Rattle.seccompiler.specs.declared.backend.BackendError.TheVariants.{InvalidTargetArch}
use Rattle.seccompiler.specs.declared.error.Error.{Error}
use Rattle.seccompiler.specs.declared.error.Error.TheVariants as library
use Rattle.seccompiler.specs.Errors.{IsNoMemoryInside}
use Rattle.seccompiler.specs.JsonAnswers.{OfValue}
use Rattle.seccompiler.specs.JsonPrograms.{TellsFirstFault}
use Rattle.seccompiler.specs.Reads.{Reads}
use Rattle.seccompiler.specs.Architecture.{arch_text}
use Rattle.seccompc.specs.declared.error.ToolError.{ToolError}
use Rattle.seccompc.specs.declared.error.ToolError.TheVariants.{Library, OutOfMemory}

-- The text is the architecture's name, ASCII case aside.
abbrev pub IsNameOf : List ℕ → TargetArch → Type 0
IsNameOf text target = str_to_ascii_lowercase text ≡ arch_text target

-- The text is some architecture's name.
abbrev pub NamesArchitecture : List ℕ → Type 0
NamesArchitecture text = (target : TargetArch) × IsNameOf text target

-- The text names an architecture, and the policy's text is of a value; P holds of both.
abbrev pub OfPolicy : List ℕ → Option (List ℕ) → (TargetArch → Data → Type 0) → Type 0
OfPolicy arch known P = (target : TargetArch) × IsNameOf arch target × Reads known (λ text. OfValue text (P target))

-- The text names no architecture, and the error reports it as it was given.
pub record IsNoArchitecture (arch : List ℕ) (e : Error) : Type 0 where
  pub text : String Global
  pub unnamed : (target : TargetArch) → IsNameOf arch target → ⊥
  pub given : string_bytes text ≡ arch
  pub told : e ≡ library.Backend (InvalidTargetArch text)

-- The first of these that is so: the text names no architecture; the policy's text has a fault, and this is its first.
-- Lack of memory is no fault.
pub data IsPolicyFault (arch : List ℕ) (known : Option (List ℕ)) (e : Error) : Type 0 where
  no_architecture : IsNoArchitecture arch e → IsPolicyFault arch known e
  of_policy : (target : TargetArch) → IsNameOf arch target → e ≢ library.OutOfMemory → IsNoMemoryInside e
      → Reads known (λ text. TellsFirstFault target text e) → IsPolicyFault arch known e

-- The error is that of a name that is no architecture's, or lack of memory.
abbrev pub IsRefusedName : List ℕ → ToolError → Type 0
IsRefusedName arch (Library e) = IsNoArchitecture arch e
IsRefusedName arch OutOfMemory = ⊤
IsRefusedName arch e = ⊥

-- The error is the first fault, or lack of memory.
abbrev pub IsRefusedPolicy : List ℕ → Option (List ℕ) → ToolError → Type 0
IsRefusedPolicy arch known (Library e) = IsPolicyFault arch known e
IsRefusedPolicy arch known OutOfMemory = ⊤
IsRefusedPolicy arch known e = ⊥
