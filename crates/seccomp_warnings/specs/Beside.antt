-- What the filters of one text mean for the warnings of each other: one may answer each clone3 as a kernel that hasn't the call.
use Rattle.std.specs.Prelude.{◌≡◌, ◌≢◌, ◌⊎◌, ◌↔◌, List, [], String, All, Any, Contains, IsTrue, IsSomeAnd, codes, map}
use Rattle.std.specs.declared.alloc.Global.{Global}
use Rattle.seccompiler.specs.JsonTypes.{JsonFilter, JsonRule}
use Rattle.seccompiler.specs.Policy.{word_of}
use Rattle.seccomp_entries.specs.declared.entry.Action.TheVariants.{Own}
use Rattle.seccomp_warnings.specs.ActionWarnings.{Permits}
use Rattle.seccomp_warnings.specs.declared.beside.Beside.{Beside}
use Rattle.seccomp_warnings.specs.declared.code.Code.{Code}
use Rattle.seccomp_warnings.specs.declared.code.Code.TheVariants as code

-- The entry is for clone3.
abbrev pub NamesClone3 : JsonRule → Type 0
NamesClone3 rule = rule.syscall ≡ codes "clone3"

-- The entry has conditions.
abbrev pub HasArgs : JsonRule → Type 0
HasArgs rule = IsSomeAnd rule.conditions (λ conditions. conditions ≢ [])

-- What entries match is answered by SECCOMP_RET_ERRNO with errno 38 (ENOSYS), and one of them matches each clone3.
abbrev pub HidesByEntry : JsonFilter → Type 0
HidesByEntry f = (word_of f.match_action ≡ 0x00050026) × Any (λ rule. NamesClone3 rule × (HasArgs rule → ⊥)) f.rules

-- What no entry matches is answered so, and none is for clone3.
abbrev pub HidesUnlisted : JsonFilter → Type 0
HidesUnlisted f = (word_of f.mismatch_action ≡ 0x00050026) × (Any NamesClone3 f.rules → ⊥)

-- Each clone3 is answered so.
abbrev pub HidesClone3 : JsonFilter → Type 0
HidesClone3 f = HidesByEntry f ⊎ HidesUnlisted f

-- Each clone3 is answered so, and every other call is let through.
abbrev pub HidesAlone : JsonFilter → Type 0
HidesAlone f = HidesByEntry f × Permits (Own f.mismatch_action) × All NamesClone3 f.rules

-- The filter does more than this, or doesn't do it.
abbrev pub DoesMore : JsonFilter → Type 0
DoesMore f = HidesAlone f → ⊥

-- This is so of some filter of a text.
pub record IsBeside (filters : List (String Global × JsonFilter)) (b : Beside) : Type 0 where
  pub hides_clone3 : IsTrue b.hides_clone3 ↔ Any HidesClone3 (map (λ named. named.1) filters)
  pub does_more : IsTrue b.does_more ↔ Any DoesMore (map (λ named. named.1) filters)

-- Beside such filters a warning of the code says nothing of the filter.
abbrev pub IsSettled : Beside → JsonFilter → Code → Type 0
IsSettled b f kind = ((kind ≡ code.CloneByClone3) × IsTrue b.hides_clone3)
    ⊎ ((kind ≡ code.AllowsByDefault) × (IsTrue b.does_more × HidesAlone f))

-- These are the allowed codes, and those that are settled.
abbrev pub AreCodesBeside : List Code → Beside → JsonFilter → List Code → Type 0
AreCodesBeside allowed b f told = (kind : Code) → Contains told kind ↔ (Contains allowed kind ⊎ IsSettled b f kind)
