use Rattle.std.proofs.Common.{All, String, Global, string_bytes}
use Rattle.serde_json.specs.Data.{Data}
use Rattle.seccompiler.specs.JsonFilters.{IsReadBack}
use Rattle.seccompiler.specs.JsonShape.{IsFilter, Under}
use Rattle.seccompiler.specs.JsonTypes.{JsonFilter}
use Rattle.seccomp_faults.specs.declared.table.Form.TheVariants as form
use Rattle.seccomp_faults.proofs.Parts.{IsFault}
use Rattle.seccomp_faults.proofs.length.all_too_long.Given as goal

-- what is left are filters of the value, and what is found are its faults
abbrev pub invariant-loop-name : goal.invariant-loop-name
invariant-loop-name l = (d : Data) → IsReadBack IsFilter l.filters.0 d
    → All (λ (e : String Global × JsonFilter). Under d (string_bytes e.0) (λ v. IsFilter v e.1)) l.name-iterator
    × All (IsFault l.target form.Policy d) l.found.items
