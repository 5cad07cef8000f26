-- What the refusals of the library mean for the answers of the engines.
use Rattle.std.proofs.Common.{◌≡◌, ℕ, ◌⊎◌, List, Option, Ok, Err, refl, ⊎_elim}
use Rattle.seccompiler.specs.declared.backend.TargetArch.{TargetArch}
use Rattle.seccompiler.specs.declared.backend.BackendError.{BackendError}
use Rattle.seccompiler.specs.declared.backend.BackendError.TheVariants as backend
use Rattle.seccompiler.specs.declared.error.Error.{Error}
use Rattle.seccompiler.specs.declared.error.Error.TheVariants as library
use Rattle.seccompiler.specs.Errors.{from_backend, IsNoMemoryInside}
use Rattle.seccompiler.specs.JsonPrograms.{TellsFirstFault}
use Rattle.seccompiler.specs.Reads.{Reads}
use Rattle.seccompiler.specs.Texts.{IsInvalidArch}
use Rattle.seccompc.specs.Errors.{from_library}
use Rattle.seccompc.specs.Faults.{IsNameOf, IsRefusedName, IsRefusedPolicy, no_architecture, of_policy}
use Rattle.seccompc.specs.declared.error.ToolError.{ToolError}
use Rattle.seccompc.specs.declared.error.ToolError.TheVariants as tool

-- A name that is refused is no architecture's.
pub name_refused : (arch : List ℕ) (e : BackendError) → ((target : TargetArch) → IsNameOf arch target → Err e ≡ Ok target)
    → IsInvalidArch e arch ⊎ (e ≡ backend.OutOfMemory) → IsRefusedName arch (from_library (from_backend e))
name_refused arch (backend.InvalidTargetArch text) none cause =
    ⊎_elim (λ given. record { text = text; unnamed = λ target named. let no = none target named in cc; given = given; told = refl })
    (λ no. absurd cc) cause
name_refused arch backend.OutOfMemory none cause = tt
name_refused arch _ none cause = ⊎_elim (λ no. absurd no) (λ no. absurd cc) cause

-- A name's refusal is one of the whole policy.
pub name_is_policy : (arch : List ℕ) (known : Option (List ℕ)) (e : ToolError) → IsRefusedName arch e → IsRefusedPolicy arch known e
name_is_policy arch known (tool.Library e) refused = no_architecture refused
name_is_policy arch known _ refused = refused

-- What the library refuses of a policy is its first fault.
pub policy_refused : (arch : List ℕ) (known : Option (List ℕ)) (target : TargetArch) (e : Error) → IsNameOf arch target → IsNoMemoryInside e
    → Reads known (λ text. TellsFirstFault target text e) → IsRefusedPolicy arch known (from_library e)
policy_refused arch known target library.OutOfMemory named memory first = tt
policy_refused arch known target e named memory first = of_policy target named (λ same. cc) memory first
