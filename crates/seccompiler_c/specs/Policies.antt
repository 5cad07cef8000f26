-- What a JSON text has under a name, and why it has nothing there.
use Rattle.std.specs.Prelude.{ℕ, List, ⊤}
use Rattle.serde_json.specs.Data.{Data}
use Rattle.seccompiler.specs.JsonAnswers.{OfValue, HasPolicy, HasSomePolicy, TellsFrontendFault}
use Rattle.seccompiler.specs.JsonFilters.{AreAll}
use Rattle.seccompiler.specs.JsonShape.{Under, Lacks}
use Rattle.seccompiler.specs.Policy.{Filter}
use Rattle.seccomp_tree.specs.declared.error.FilterError.{FilterError}
use Rattle.seccomp_tree.specs.declared.error.FilterError.TheVariants as filter
use Rattle.seccompiler.specs.declared.backend.TargetArch.{TargetArch}
use Rattle.seccompiler.specs.declared.json.error.JsonFrontendError.{JsonFrontendError}
use Rattle.seccompiler.specs.declared.json.error.JsonFrontendError.TheVariants as frontend
use Rattle.seccompiler_c.specs.declared.fault.Fault.{Fault}
use Rattle.seccompiler_c.specs.declared.fault.Fault.TheVariants as fault

-- The front end's refusal of a text, as a fault.
abbrev pub from_frontend : JsonFrontendError → Fault
from_frontend frontend.OutOfMemory = fault.OutOfMemory
from_frontend refusal = fault.Text refusal

-- The refusal of a filter, as a fault.
abbrev pub from_filter : FilterError → Fault
from_filter filter.OutOfMemory = fault.OutOfMemory
from_filter refusal = fault.Filter refusal

-- The text has no fault on the architecture, all filters of its value having policies, and P holds of the value.
abbrev pub OfPolicies : TargetArch → List ℕ → (Data → Type 0) → Type 0
OfPolicies target text P = OfValue text (λ d. AreAll (HasSomePolicy target) d × P d)

-- The text has no fault, and P holds of the policy that its filter of this name is.
abbrev pub NamesPolicy : TargetArch → List ℕ → List ℕ → (Filter → Type 0) → Type 0
NamesPolicy target text name P =
    OfPolicies target text (λ d. Under d name (λ value. (policy : Filter) × HasPolicy target value policy × P policy))

-- The text has no fault, and no filter of this name.
abbrev pub NamesNone : TargetArch → List ℕ → List ℕ → Type 0
NamesNone target text name = OfPolicies target text (λ d. Lacks d name)

-- The error reports the text's first fault: no lack of memory, and no reader's.
abbrev pub TellsTextFault : TargetArch → List ℕ → JsonFrontendError → Type 0
TellsTextFault target text frontend.OutOfMemory = ⊥
TellsTextFault target text (frontend.Read e) = ⊥
TellsTextFault target text e = TellsFrontendFault target text e

-- Why there is no policy: the text's first fault; else that no filter has the name. Lack of memory may come in place
-- of both.
abbrev pub IsPolicyFault : TargetArch → List ℕ → List ℕ → Fault → Type 0
IsPolicyFault target text name fault.OutOfMemory = ⊤
IsPolicyFault target text name (fault.Text e) = TellsTextFault target text e
IsPolicyFault target text name fault.NoFilter = NamesNone target text name
IsPolicyFault target text name f = ⊥
