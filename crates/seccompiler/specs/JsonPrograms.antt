-- What the programs of a JSON text are, and which of its faults is reported.
use Rattle.std.specs.Prelude.{ℕ, List, Option, Vec, ⊤}
use Rattle.std.specs.declared.alloc.Global.{Global}
use Rattle.serde_json.specs.Data.{Data}
use Rattle.seccompiler.specs.Compiled.{IsCompiled, IsCompilable, IsTooLarge}
use Rattle.seccompiler.specs.JsonAnswers.{HasPolicy, HasSomePolicy, OfValue, TellsFrontendFault}
use Rattle.seccompiler.specs.JsonFilters.{AreFound, AreAll, IsLeast}
use Rattle.seccompiler.specs.Policy.{Filter}
use Rattle.seccompiler.specs.declared.backend.BackendError.TheVariants.{FilterTooLarge}
use Rattle.seccompiler.specs.declared.backend.TargetArch.{TargetArch}
use Rattle.seccompiler.specs.declared.bpf.sock_filter.{sock_filter}
use Rattle.seccompiler.specs.declared.error.Error.{Error}
use Rattle.seccompiler.specs.declared.error.Error.TheVariants as whole

-- The value has a policy on this architecture, for which the program stands.
pub record IsProgramOf (arch : TargetArch) (value : Data) (program : List sock_filter) : Type 0 where
  pub policy : Filter
  pub is_policy : HasPolicy arch value policy
  pub compiled : IsCompiled policy program

-- The value is an object, and what is found under a name is a program for the policy of the name's value; under no
-- other name there is anything.
abbrev pub AreProgramsOf : TargetArch → (List ℕ → Option (Vec sock_filter Global)) → Data → Type 0
AreProgramsOf arch = AreFound (λ value program. IsProgramOf arch value program.items)

-- All values have policies; one policy is too large, n telling its length, and no policy of a name below its name is.
abbrev pub IsLeastTooLarge : TargetArch → ℕ → Data → Type 0
IsLeastTooLarge arch n d = AreAll (HasSomePolicy arch) d × (name : List ℕ)
    × IsLeast (λ value. (policy : Filter) × HasPolicy arch value policy × IsTooLarge policy n)
    (λ value. (policy : Filter) × HasPolicy arch value policy × IsCompilable policy) d name

-- The error reports what is at fault in the text, and nothing that comes earlier in the order of faults is: all
-- faults of the front end, and then the least name's policy that is too large. Lack of memory may come in place of
-- all.
abbrev pub TellsFirstFault : TargetArch → List ℕ → Error → Type 0
TellsFirstFault arch text (whole.JsonFrontend cause) = TellsFrontendFault arch text cause
TellsFirstFault arch text (whole.Backend (FilterTooLarge n)) = OfValue text (IsLeastTooLarge arch n)
TellsFirstFault arch text whole.OutOfMemory = ⊤
TellsFirstFault arch text e = ⊥
