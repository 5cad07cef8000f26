-- What the policies of a JSON text are, and which of its faults is reported.
use Rattle.std.specs.Prelude.{◌≡◌, ℕ, List, Option, Some, string_bytes, ⊤}
use Rattle.std.specs.Str.{IsUtf8}
use Rattle.serde_json.specs.Data.{Data}
use Rattle.serde_json.specs.Read.{read}
use Rattle.seccompiler.specs.JsonPolicyOf.{Fault, unknown_call, refused, IsPolicyOf, IsFirstFault}
use Rattle.seccompiler.specs.JsonFilters.{AreFound, AreAll, IsLeast, IsSomeFilter, IsLeastFault}
use Rattle.seccompiler.specs.JsonRepeats.{Repeats}
use Rattle.seccompiler.specs.JsonShape.{IsObject, IsFilter}
use Rattle.seccompiler.specs.Policy.{Filter}
use Rattle.seccompiler.specs.declared.backend.TargetArch.{TargetArch}
use Rattle.seccompiler.specs.declared.json.error.JsonFrontendError.{JsonFrontendError}
use Rattle.seccompiler.specs.declared.json.error.JsonFrontendError.TheVariants.{Backend, SerdeJson, SyscallName, Read, RepeatedKey}
use Rattle.seccompiler.specs.declared.json.error.JsonFrontendError.TheVariants.{NotAnObject, Shape, OutOfMemory}
use Rattle.seccompiler.specs.JsonTypes.{JsonFilter}

-- The bytes are UTF-8, and serde_json reads this value of them.
pub record IsReadAs (text : List ℕ) (d : Data) : Type 0 where
  pub utf8 : IsUtf8 text
  pub value : read text ≡ Some d

-- The text is read as this value, and has no more colons outside strings than the value has names.
pub record IsValueOf (text : List ℕ) (d : Data) : Type 0 where
  pub is_read : IsReadAs text d
  pub no_repeat : Repeats text d → ⊥

-- The text is of a value for which P holds.
abbrev pub OfValue : List ℕ → (Data → Type 0) → Type 0
OfValue text P = (d : Data) × IsValueOf text d × P d

-- P holds for each text of which this is the value.
abbrev pub OfEachText : Data → (List ℕ → Type 0) → Type 0
OfEachText d P = (text : List ℕ) → IsValueOf text d → P text

-- The value is a filter, whose policy on this architecture is this one.
abbrev pub HasPolicy : TargetArch → Data → Filter → Type 0
HasPolicy arch value policy = (f : JsonFilter) × IsFilter value f × IsPolicyOf arch f policy

-- The value has some policy on this architecture.
abbrev pub HasSomePolicy : TargetArch → Data → Type 0
HasSomePolicy arch value = (policy : Filter) × HasPolicy arch value policy

-- The value is an object, and what is found under a name is the policy of the name's value; under no other name there is anything.
abbrev pub ArePoliciesOf : TargetArch → (List ℕ → Option Filter) → Data → Type 0
ArePoliciesOf arch = AreFound (HasPolicy arch)

-- All values are filters; this is the first fault of one, and each name below its name has a policy.
abbrev pub IsLeastRefused : TargetArch → Fault → Data → Type 0
IsLeastRefused arch fault d = AreAll IsSomeFilter d × (name : List ℕ)
    × IsLeast (λ value. (f : JsonFilter) × IsFilter value f × IsFirstFault arch f fault) (HasSomePolicy arch) d name

-- The error reports what is at fault in the text, and nothing that comes earlier in the order of faults is: the bytes
-- are no JSON; they have more colons than names; the top is no object; a filter has a wrong shape; a filter is refused. The least
-- name's fault comes first. A failed read tells nothing of the text, and lack of memory may come in place of all.
abbrev pub TellsFrontendFault : TargetArch → List ℕ → JsonFrontendError → Type 0
TellsFrontendFault arch text (Backend cause) = OfValue text (IsLeastRefused arch (refused cause))
TellsFrontendFault arch text (SerdeJson cause) = (d : Data) → IsReadAs text d → ⊥
TellsFrontendFault arch text (SyscallName name known) = OfValue text (IsLeastRefused arch (unknown_call (string_bytes name) known))
TellsFrontendFault arch text (Read cause) = ⊤
TellsFrontendFault arch text RepeatedKey = (d : Data) × IsReadAs text d × Repeats text d
TellsFrontendFault arch text NotAnObject = OfValue text (λ d. IsObject d → ⊥)
TellsFrontendFault arch text (Shape name) = OfValue text (λ d. IsLeastFault d (string_bytes name))
TellsFrontendFault arch text OutOfMemory = ⊤
