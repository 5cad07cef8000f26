-- How the policy of a JSON filter differs from what the Rust crate makes of it: for every such pair and every record of a call.
use Rattle.std.specs.Prelude.{◌↔◌, ℕ, ℤ, pos, List, Contains, ◌≡◌, ◌≢◌, None, Any}
use Rattle.seccompiler.specs.declared.backend.TargetArch.{TargetArch}
use Rattle.seccompiler.specs.JsonPolicyOf.{IsPolicyOf, IsFor, IsMadeOf, all_rules}
use Rattle.seccompiler.specs.JsonTypes.{JsonFilter}
use Rattle.seccompiler.specs.Policy.{Filter, Matches, IsDecision}
use Rattle.seccompiler.specs.Machine.{word_at}

-- The filter is what the Rust crate makes of the JSON filter. It differs in this alone: an entry without conditions adds
-- nothing to its number, whose chain is all rules of its other entries.
abbrev pub IsPolicyBefore : TargetArch → JsonFilter → Filter → Type 0
IsPolicyBefore arch j f = IsMadeOf (all_rules arch j.rules) arch j f

-- The number has both an entry without conditions and one with conditions.
pub record IsWidened (arch : TargetArch) (j : JsonFilter) (number : ℤ) : Type 0 where
  pub without : Any (λ entry. IsFor arch number entry × (entry.conditions ≡ None)) j.rules
  pub with_conditions : Any (λ entry. IsFor arch number entry × (entry.conditions ≢ None)) j.rules

-- On each record whose number is not among these, both decide the same.
abbrev pub DecideAlikeOff : List ℤ → TargetArch → JsonFilter → Type 0
DecideAlikeOff numbers arch j = (before now : Filter) → IsPolicyBefore arch j before → IsPolicyOf arch j now
    → (r : List ℕ) → (Contains numbers (pos (word_at r 0)) → ⊥) → (w : ℕ) → IsDecision before r w ↔ IsDecision now r w

-- Each record whose number is among these is matched by the policy, whatever the record's architecture and arguments.
abbrev pub MatchesOn : List ℤ → TargetArch → JsonFilter → Type 0
MatchesOn numbers arch j = (now : Filter) → IsPolicyOf arch j now → (r : List ℕ) → Contains numbers (pos (word_at r 0)) → Matches now r

-- Each record that the Rust crate's filter matches is matched by the policy.
abbrev pub KeepsMatches : TargetArch → JsonFilter → Type 0
KeepsMatches arch j = (before now : Filter) → IsPolicyBefore arch j before → IsPolicyOf arch j now
    → (r : List ℕ) → Matches before r → Matches now r
