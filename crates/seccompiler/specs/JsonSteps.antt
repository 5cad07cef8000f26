-- What the calls answer that go one step of the way from a JSON text or value to filters.
use Rattle.std.specs.Prelude.{string_bytes, ⊤, ◌≡◌, ◌≢◌, ◌≤◌, ◌<◌, Result, Ok, Err}
use Rattle.std.specs.BTreeMap.{get_by_text}
use Rattle.serde_json.specs.Data.{Data}
use Rattle.seccompiler.specs.JsonShape.{IsObject, IsFilter}
use Rattle.seccompiler.specs.declared.json.error.JsonFrontendError.{JsonFrontendError}
use Rattle.seccompiler.specs.declared.json.error.JsonFrontendError.TheVariants.{NotAnObject, Shape, OutOfMemory, Backend, SyscallName, Read}
use Rattle.seccompiler.specs.declared.json.types.JsonFilterMap.{JsonFilterMap}
use Rattle.seccompiler.specs.JsonFilters.{AreFound, IsLeastFault}
use Rattle.seccompiler.specs.declared.backend.TargetArch.{TargetArch}
use Rattle.seccompiler.specs.declared.json.types.JsonCondition.{JsonCondition}
use Rattle.seccompiler.specs.JsonTypes.{JsonFilter}
use Rattle.seccompiler.specs.Policy.{Condition}
use Rattle.seccompiler.specs.JsonPolicyOf.{Fault, unknown_call, refused, condition_of, IsFirstFault}
use Rattle.seccompiler.specs.declared.backend.BackendError.TheVariants as of_backend

-- The value is an object, and the map has exactly its names, each with the filter that its value is.
abbrev pub AreFilters : Data → JsonFilterMap → Type 0
AreFilters d filters = AreFound IsFilter (get_by_text filters.0) d

-- Why the value is refused: it is no object, or this is its least name whose value is no filter; or memory ran out.
abbrev pub IsShapeRefusal : Data → JsonFrontendError → Type 0
IsShapeRefusal d NotAnObject = IsObject d → ⊥
IsShapeRefusal d (Shape name) = IsLeastFault d (string_bytes name)
IsShapeRefusal d OutOfMemory = ⊤
IsShapeRefusal d _ = ⊥

-- The error is of the reader, of the text or of the shape of its filters. It comes before a filter's policy is looked for.
abbrev pub IsBeforePolicies : JsonFrontendError → Type 0
IsBeforePolicies (Backend cause) = ⊥
IsBeforePolicies (SyscallName name arch) = ⊥
IsBeforePolicies e = ⊤

-- The error is not that a reader failed.
abbrev pub IsNoFailedRead : JsonFrontendError → Type 0
IsNoFailedRead (Read cause) = ⊥
IsNoFailedRead e = ⊤

-- A conversion gives the condition of the same four parts if the index is at most 5, and is refused if it is above.
abbrev pub IsConditionOf : JsonCondition → Result Condition JsonFrontendError → Type 0
IsConditionOf c (Ok made) = (c.arg_index ≤ 5) × (made ≡ condition_of c)
IsConditionOf c (Err e) = (5 < c.arg_index) × (e ≡ Backend of_backend.InvalidArgumentNumber)

-- An error reports a fault for which P holds, and no lack of memory is in it. Lack of memory may come in place of the
-- fault, and no other error comes.
abbrev pub Tells : (Fault → Type 0) → JsonFrontendError → Type 0
Tells P (Backend cause) = P (refused cause) × (cause ≢ of_backend.OutOfMemory)
Tells P (SyscallName name arch) = P (unknown_call (string_bytes name) arch)
Tells P OutOfMemory = ⊤
Tells P _ = ⊥

-- Why a JSON filter has no policy, as an error reports it: its first fault.
abbrev pub IsPolicyRefusal : TargetArch → JsonFilter → JsonFrontendError → Type 0
IsPolicyRefusal arch j = Tells (IsFirstFault arch j)
