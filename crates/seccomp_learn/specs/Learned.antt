-- What a learned policy is.
use Rattle.std.specs.Prelude.{◌≡◌, ◌↔◌, ◌⊎◌, ℕ, List, All, Any, Contains}
use Rattle.seccompiler.specs.declared.backend.TargetArch.{TargetArch}
use Rattle.seccompiler.specs.JsonPolicyOf.{IsPolicyOf}
use Rattle.seccompiler.specs.JsonTypes.{JsonFilter}
use Rattle.seccompiler.specs.Policy.{Filter, Matches}
use Rattle.seccomp_learn.specs.declared.observation.Kept.{Kept}
use Rattle.seccomp_learn.specs.declared.observation.Observation.{Observation}
use Rattle.seccomp_learn.specs.declared.policy.Lesson.{Lesson}
use Rattle.seccomp_learn.specs.Observed.{HasFewValues, HasMoreValues, IsAsNamed}

-- The old policy is one. The new policy matches what it matches, each call as it was observed, and nothing else; it has its actions.
-- It keeps each argument that is wanted of calls that were observed with at most as many different values as the limit, and no other.
pub record IsLearnedWithin (arch : TargetArch) (limit : ℕ) (wanted : List Kept) (observed : List Observation) (old : JsonFilter)
    (lesson : Lesson) : Type 0 where
  pub policy : IsPolicyOf arch lesson.learned.json lesson.learned.filter
  pub before : (before : Filter) × IsPolicyOf arch old before
  pub mismatch_action : lesson.learned.json.mismatch_action ≡ old.mismatch_action
  pub match_action : lesson.learned.json.match_action ≡ old.match_action
  pub matches : (before : Filter) → IsPolicyOf arch old before → (r : List ℕ)
      → Matches lesson.learned.filter r ↔ (Matches before r ⊎ Any (IsAsNamed arch lesson.kept.items r) observed)
  pub among : All (Contains wanted) lesson.kept.items
  pub few : All (λ each. HasFewValues limit wanted observed each.number) lesson.kept.items
  pub left_out : All (λ each. Contains lesson.kept.items each ⊎ HasMoreValues limit wanted observed each.number) wanted
