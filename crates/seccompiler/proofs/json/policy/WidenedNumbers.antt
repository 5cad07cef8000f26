-- For `JsonCompiler::widened` and `widened_numbers`: the numbers that have entries of both kinds, and what two policies
-- decide on and off them.
use Rattle.std.proofs.Common.{inl, ◌≡◌, ◌≢◌, ◌↔◌, ℕ, ℤ, pos, List, [], ◌∷◌, Bool, true, ◌&&◌, None, Any, refl, sym, ◌∙◌, Decides, arith}
use Rattle.std.proofs.Common.{subst}
use Rattle.std.specs.List.{list_any, Contains}
use Rattle.std.specs.Option.{is_none, is_some}
use Rattle.std.specs.Ordering.{int_eq}
use Rattle.std.proofs.lemmas.Bool.Decides.{Decides-int_eq, Decides-and, Decides-at}
use Rattle.std.proofs.lemmas.Map.Made.{is_member-Decides}
use Rattle.seccompiler.specs.declared.backend.TargetArch.{TargetArch}
use Rattle.seccompiler.specs.declared.json.policy.Gathered.{Gathered}
use Rattle.seccompiler.specs.JsonGathered.{is_always_at, rules_at, AreGathered}
use Rattle.seccompiler.specs.JsonPolicyOf.{chain_for, all_rules, chain_at, is_for, is_always, IsFor, IsPolicyOf}
use Rattle.seccompiler.specs.JsonWidened.{IsPolicyBefore, IsWidened, DecideAlikeOff, MatchesOn}
use Rattle.seccompiler.specs.JsonTypes.{JsonRule, JsonFilter}
use Rattle.seccompiler.specs.Policy.{Filter, Matches, IsDecision}
use Rattle.seccompiler.specs.Machine.{word_at}
use Rattle.seccompiler.proofs.json.policy.Policies.{any_decides, for_decides, some_rules, for_either, found_in}

module _ (arch : TargetArch) where
  -- Whether an entry is for a number and has conditions.
  abbrev has_conditions : ℤ → JsonRule → Bool
  has_conditions number entry = is_for arch number entry && is_some entry.conditions

  pub always_decides : (number : ℤ) (entries : List JsonRule)
      → Decides (list_any (is_always arch number) entries) (Any (λ entry. IsFor arch number entry × (entry.conditions ≡ None)) entries)
  always_decides number = any_decides (is_always arch number) _
      (λ entry. Decides-and (is_for arch number entry) (is_none entry.conditions) (for_decides arch number entry) (grind arith))

  conditions_decide : (number : ℤ) (entries : List JsonRule)
      → Decides (list_any (has_conditions number) entries) (Any (λ entry. IsFor arch number entry × (entry.conditions ≢ None)) entries)
  conditions_decide number = any_decides (has_conditions number) _
      (λ entry. Decides-and (is_for arch number entry) (is_some entry.conditions) (for_decides arch number entry) (grind arith))

  -- A number has rules where some entry for it has conditions.
  rules_from_conditions : (number : ℤ) (entries : List JsonRule) → some_rules arch (all_rules arch entries number)
      ≡ list_any (has_conditions number) entries
  rules_from_conditions number [] = refl
  rules_from_conditions number (entry ∷ entries) = grind (arith, rules_from_conditions number entries)

  -- Whether a number has entries of both kinds.
  abbrev of_both : List JsonRule → ℤ → Bool
  of_both entries number = list_any (is_always arch number) entries && some_rules arch (all_rules arch entries number)

  module _ (j : JsonFilter) where
    widened_decides : (number : ℤ) → Decides (of_both j.rules number) (IsWidened arch j number)
    widened_decides number = grind (arith, Decides-and, always_decides, Decides-at, rules_from_conditions, conditions_decide)

    -- The numbers that were gathered of both kinds are those.
    pub both_gathered : (entries : List JsonRule) (gathered : Gathered) (numbers : List ℤ) → entries ≡ j.rules
        → AreGathered arch entries gathered
        → ((number : ℤ) → list_any (int_eq number) numbers ≡ (is_always_at gathered number && is_some (rules_at gathered number)))
        → (number : ℤ) → Contains numbers number ↔ IsWidened arch j number
    both_gathered entries gathered numbers these is listed number =
        let all = subst (λ (es : List JsonRule). AreGathered arch es gathered) these is in
        let there = is_member-Decides Decides-int_eq numbers number in
        let same : list_any (int_eq number) numbers ≡ of_both j.rules number =
        grind (arith, listed number, all.always number, all.rules number) in
        let widened = widened_decides number in
        (λ among. widened.0 (sym same ∙ there.1 among), λ both. there.0 (same ∙ widened.1 both))

    -- On a number that matches always, the policy matches.
    matches_always : (now : Filter) → IsPolicyOf arch j now → (r : List ℕ) → list_any (is_always arch (pos (word_at r 0))) j.rules ≡ true
        → Matches now r
    matches_always now new r always = record {
      chain = [];
      there = found_in arch j (chain_for arch j.rules) now new (pos (word_at r 0)) ∙ grind (arith, for_either);
      matches = inl refl;
    }

    module _ (before now : Filter) (old : IsPolicyBefore arch j before) (new : IsPolicyOf arch j now) where
      -- A number without entries of both kinds has the same chain in both.
      same_chain : (number : ℤ) → (IsWidened arch j number → ⊥) → chain_at before.chains number ≡ chain_at now.chains number
      same_chain number apart = found_in arch j (all_rules arch j.rules) before old number ∙ grind (arith, widened_decides number)
          ∙ sym (found_in arch j (chain_for arch j.rules) now new number)

      -- What matches in one matches in the other, where the number has the same chain.
      matches_alike : (f g : Filter) (r : List ℕ) → chain_at f.chains (pos (word_at r 0)) ≡ chain_at g.chains (pos (word_at r 0))
          → Matches f r → Matches g r
      matches_alike f g r same m = record { chain = m.chain; there = sym same ∙ m.there; matches = m.matches }

      same_decision : (r : List ℕ) → (IsWidened arch j (pos (word_at r 0)) → ⊥) → (w : ℕ) → IsDecision before r w ↔ IsDecision now r w
      same_decision r apart w = grind (arith, same_chain (pos (word_at r 0)) apart, matches_alike)

      -- What the Rust crate's filter matches is matched.
      pub keeps_matches : (r : List ℕ) → Matches before r → Matches now r
      keeps_matches r m = let number = pos (word_at r 0) in
          grind (arith, matches_always now new r, matches_alike before now r, same_chain number, always_decides number j.rules)

    -- The same of a list of exactly those numbers.
    pub alike_off : (numbers : List ℤ) → ((number : ℤ) → Contains numbers number ↔ IsWidened arch j number) → DecideAlikeOff numbers arch j
    alike_off numbers exactly before now old new r off w =
        same_decision before now old new r (λ both. off ((exactly (pos (word_at r 0))).1 both)) w

    pub matches_on : (numbers : List ℤ) → ((number : ℤ) → Contains numbers number ↔ IsWidened arch j number) → MatchesOn numbers arch j
    matches_on numbers exactly now new r on =
        matches_always now new r ((always_decides (pos (word_at r 0)) j.rules).1 ((exactly (pos (word_at r 0))).0 on).without)
