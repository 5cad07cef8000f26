-- For `conditions`: what holds of the conditions on the arguments that are kept, as these are gone through.
use Rattle.std.proofs.Common.{◌≡◌, ◌↔◌, ◌<◌, ◌≤◌, ◌+◌, ℕ, List, [], ◌∷◌, ◌++◌, All, length, get_or, take, map, subst, sym, ap, ◌∙◌}
use Rattle.std.specs.Bool.{⊤}
use Rattle.std.proofs.lemmas.List.{map-append, take_all, take_more}
use Rattle.std.proofs.lemmas.List.Elements.{All-nil}
use Rattle.seccompiler.specs.JsonPolicyOf.{condition_of}
use Rattle.seccompiler.specs.Policy.{Holds, RuleHolds}
use Rattle.seccompiler.specs.declared.json.types.JsonCondition.{JsonCondition}
use Rattle.seccomp_learn.specs.Observed.{HasSeenValue}
use Rattle.seccomp_learn.specs.declared.observation.Kept.{Kept}
use Rattle.seccomp_learn.specs.declared.observation.Observation.{Observation}
use Rattle.seccomp_learn.proofs.Quantified.{all_push}

module _ (r : List ℕ) (o : Observation) where
  -- The conditions hold where the record has the values that were seen.
  abbrev pub HoldAsSeen : List JsonCondition → List Kept → Type 0
  HoldAsSeen conditions kept = RuleHolds (map condition_of conditions) r ↔ All (HasSeenValue r o) kept

  pushed : (conditions : List JsonCondition) (condition : JsonCondition) (kept : List Kept) (each : Kept)
      → HoldAsSeen conditions kept → (Holds (condition_of condition) r ↔ HasSeenValue r o each)
      → RuleHolds (map condition_of conditions ++ condition_of condition ∷ []) r ↔ All (HasSeenValue r o) (kept ++ each ∷ [])
  pushed conditions condition kept each so_far here =
      let left = all_push (λ c. Holds c r) (map condition_of conditions) (condition_of condition) in
      let right = all_push (HasSeenValue r o) kept each in (
        λ all. right.1 (so_far.0 (left.0 all).0, here.0 (left.0 all).1),
        λ all. left.1 (so_far.1 (right.0 all).0, here.1 (right.0 all).1),
      )

  -- One more argument, of which a value was seen.
  pub seen_more : (conditions new : List JsonCondition) (condition : JsonCondition) (kept : List Kept) (i : ℕ) (d : Kept)
      → i < length kept → new ≡ conditions ++ condition ∷ [] → HoldAsSeen conditions (take i kept)
      → (Holds (condition_of condition) r ↔ HasSeenValue r o (get_or kept i d)) → HoldAsSeen new (take (i + 1) kept)
  seen_more conditions new condition kept i d within is so_far here =
      let conditions_are = ap (map condition_of) is ∙ map-append condition_of conditions (condition ∷ []) in
      subst (λ all. RuleHolds all r ↔ All (HasSeenValue r o) (take (i + 1) kept)) (sym conditions_are)
      (subst (λ seen. RuleHolds (map condition_of conditions ++ condition_of condition ∷ []) r ↔ All (HasSeenValue r o) seen)
      (sym (take_more kept i d within)) (pushed conditions condition (take i kept) (get_or kept i d) so_far here))

  -- One more argument, of which nothing was seen.
  pub unseen_more : (conditions new : List JsonCondition) (kept : List Kept) (i : ℕ) (d : Kept) → i < length kept → new ≡ conditions
      → HoldAsSeen conditions (take i kept) → HasSeenValue r o (get_or kept i d) → HoldAsSeen new (take (i + 1) kept)
  unseen_more conditions new kept i d within is so_far here =
      let right = all_push (HasSeenValue r o) (take i kept) (get_or kept i d) in
      subst (λ cs. HoldAsSeen cs (take (i + 1) kept)) (sym is)
      (subst (λ seen. HoldAsSeen conditions seen) (sym (take_more kept i d within)) (
        λ all. right.1 (so_far.0 all, here),
        λ all. so_far.1 (right.0 all).0,
      ))

  -- The end of the arguments.
  pub all_seen : (conditions : List JsonCondition) (kept : List Kept) (i : ℕ) → length kept ≤ i → HoldAsSeen conditions (take i kept)
      → HoldAsSeen conditions kept
  all_seen conditions kept i end so_far = subst (λ seen. HoldAsSeen conditions seen) (take_all i kept end) so_far

  -- No conditions hold.
  pub none_seen : (conditions : List JsonCondition) (kept : List Kept) → conditions ≡ [] → HoldAsSeen conditions kept
      → ⊤ ↔ All (HasSeenValue r o) kept
  none_seen conditions kept is so_far =
      let empty = subst (λ cs. HoldAsSeen cs kept) is so_far in (λ _. empty.0 (All-nil (λ c. Holds c r)), λ _. tt)
