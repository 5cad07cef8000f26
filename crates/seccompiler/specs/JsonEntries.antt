-- Which records meet an entry of a JSON filter, and that policies match exactly these.
use Rattle.std.specs.Prelude.{◌↔◌, ℕ, pos, List, Option, Some, None, Any, map, ⊤}
use Rattle.seccompiler.specs.declared.backend.TargetArch.{TargetArch}
use Rattle.seccompiler.specs.declared.json.types.JsonCondition.{JsonCondition}
use Rattle.seccompiler.specs.JsonPolicyOf.{IsFor, IsPolicyOf, condition_of}
use Rattle.seccompiler.specs.JsonTypes.{JsonFilter, JsonRule}
use Rattle.seccompiler.specs.Machine.{word_at}
use Rattle.seccompiler.specs.Policy.{Filter, Matches, RuleHolds}

-- The conditions hold on a record: all of them, if there is a list of them.
abbrev pub ConditionsHold : List ℕ → Option (List JsonCondition) → Type 0
ConditionsHold r None = ⊤
ConditionsHold r (Some conditions) = RuleHolds (map condition_of conditions) r

-- The record meets an entry: its number is that of the entry's call, and the entry's conditions hold on it.
pub record MeetsEntry (arch : TargetArch) (r : List ℕ) (entry : JsonRule) : Type 0 where
  pub call : IsFor arch (pos (word_at r 0)) entry
  pub conditions : ConditionsHold r entry.conditions

-- The policy of each JSON filter matches exactly the records that meet one of its entries.
abbrev pub PoliciesMatchEntries : TargetArch → Type 0
PoliciesMatchEntries arch = (j : JsonFilter) (f : Filter) → IsPolicyOf arch j f
    → (r : List ℕ) → Matches f r ↔ Any (MeetsEntry arch r) j.rules
