-- Which texts are of policies that have filters.
use Rattle.std.specs.Prelude.{ℕ, List, Option, Some, bytes_eq}
use Rattle.std.specs.BTreeMap.{get_by_text}
use Rattle.std.specs.Map.{update}
use Rattle.seccompiler.specs.JsonAnswers.{OfValue}
use Rattle.seccompiler.specs.JsonFilters.{AreFound}
use Rattle.seccompiler.specs.JsonShape.{IsFilter, Under}
use Rattle.seccompiler.specs.JsonTypes.{JsonFilter}
use Rattle.seccompiler.specs.declared.json.types.JsonFilterMap.{JsonFilterMap}

-- This filter is found under the name, and under each other name what is found there.
abbrev pub beside : (others : List ℕ → Option JsonFilter) → (name : List ℕ) → JsonFilter → List ℕ → Option JsonFilter
beside others name filter = update bytes_eq others name (Some filter)

-- What is found under the names of these filters.
abbrev pub found_in : JsonFilterMap → List ℕ → Option JsonFilter
found_in filters = get_by_text filters.0

-- The text is of a policy that has exactly the filters that are found, each under its name.
abbrev pub HasFilters : (text : List ℕ) → (find : List ℕ → Option JsonFilter) → Type 0
HasFilters text find = OfValue text (AreFound IsFilter find)

-- The text is of a policy that has this filter under the name.
abbrev pub HasFilter : (text name : List ℕ) → JsonFilter → Type 0
HasFilter text name filter = OfValue text (λ d. Under d name (λ value. IsFilter value filter))
