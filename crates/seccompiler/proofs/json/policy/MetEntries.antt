-- For `JsonCompiler::make_seccomp_filter`: the policy matches the records that meet one of the entries.
use Rattle.std.proofs.Common.{◌≡◌, ◌↔◌, ℕ, ℤ, pos, List, [], ◌∷◌, ◌++◌, Bool, true, false, ◌||◌, ◌&&◌, cond, Option, Some, None, Any, refl}
use Rattle.std.proofs.Common.{sym, ◌∙◌, subst, ◌⊎◌, inl, inr, arith}
use Rattle.std.specs.List.{list_any}
use Rattle.std.specs.Option.{is_none}
use Rattle.std.proofs.lemmas.Bool.{true≢false}
use Rattle.seccompiler.specs.declared.backend.TargetArch.{TargetArch}
use Rattle.seccompiler.specs.declared.json.types.JsonCondition.{JsonCondition}
use Rattle.seccompiler.specs.JsonEntries.{ConditionsHold, MeetsEntry, PoliciesMatchEntries}
use Rattle.seccompiler.specs.JsonPolicyOf.{all_rules, chain_at, chain_for, is_always, is_for, rules_of, IsPolicyOf}
use Rattle.seccompiler.specs.JsonTypes.{JsonFilter, JsonRule}
use Rattle.seccompiler.specs.Machine.{word_at}
use Rattle.seccompiler.specs.Policy.{Rule, Chain, ChainMatches, Filter, Matches, RuleHolds}
use Rattle.seccompiler.proofs.Searches.{any_head, any_tail, any_cases, any_nil}
use Rattle.seccompiler.proofs.json.policy.Policies.{for_decides, for_either, found_in, some_rules}
use Rattle.seccompiler.proofs.json.policy.WidenedNumbers.{always_decides}

module _ (arch : TargetArch) (r : List ℕ) where
  -- The record's call number.
  abbrev here : ℤ
  here = pos (word_at r 0)

  -- Some rule holds.
  abbrev Hold : List Rule → Type 0
  Hold rules = Any (λ q. RuleHolds q r) rules

  -- Some entry is met.
  abbrev Meet : List JsonRule → Type 0
  Meet entries = Any (MeetsEntry arch r) entries

  -- An entry of which a rule holds is met.
  meet_of_rules : (entries : List JsonRule) → Hold (all_rules arch entries here) → Meet entries
  meet_of_rules [] hold = absurd (any_nil (λ q. RuleHolds q r) hold)
  meet_of_rules (entry ∷ entries) hold = by (is_for arch here entry) entry.conditions refl refl (meet_of_rules entries) hold
    where
      by : (b : Bool) (o : Option (List JsonCondition)) → is_for arch here entry ≡ b → entry.conditions ≡ o
          → (Hold (all_rules arch entries here) → Meet entries) → Hold (cond b (rules_of o) [] ++ all_rules arch entries here)
          → Meet (entry ∷ entries)
      by false o is are rest hold = any_tail (MeetsEntry arch r) entry entries (rest hold)
      by true None is are rest hold = any_tail (MeetsEntry arch r) entry entries (rest hold)
      by true (Some conditions) is are rest hold = elim (any_cases (λ q. RuleHolds q r) _ (all_rules arch entries here) hold) [
        | inl own ↦ any_head (MeetsEntry arch r) entry entries (record {
          call = (for_decides arch here entry).0 is;
          conditions = subst (ConditionsHold r) (sym are) own;
        })
        | inr later ↦ any_tail (MeetsEntry arch r) entry entries (rest later)
      ]

  -- One of the record's call without conditions is met.
  meet_of_always : (entries : List JsonRule) → list_any (is_always arch here) entries ≡ true → Meet entries
  meet_of_always entries always = grind (arith, always_decides)

  -- An entry that is met has no conditions, or its rule holds.
  rules_of_meet : (entries : List JsonRule) → Meet entries
      → (list_any (is_always arch here) entries ≡ true) ⊎ Hold (all_rules arch entries here)
  rules_of_meet [] meet = absurd (any_nil (MeetsEntry arch r) meet)
  rules_of_meet (entry ∷ entries) meet = by (is_for arch here entry) entry.conditions refl refl (rules_of_meet entries)
      (any_cases (MeetsEntry arch r) entry entries meet)
    where
      by : (b : Bool) (o : Option (List JsonCondition)) → is_for arch here entry ≡ b → entry.conditions ≡ o
          → (Meet entries → (list_any (is_always arch here) entries ≡ true) ⊎ Hold (all_rules arch entries here))
          → MeetsEntry arch r entry ⊎ Meet entries → (((b && is_none o) || list_any (is_always arch here) entries) ≡ true)
          ⊎ Hold (cond b (rules_of o) [] ++ all_rules arch entries here)
      by false o is are rest (inl own) = absurd (true≢false (sym ((for_decides arch here entry).1 own.call) ∙ is))
      by false o is are rest (inr later) = rest later
      by true None is are rest either = inl refl
      by true (Some conditions) is are rest (inl own) =
          inr (any_head (λ q. RuleHolds q r) _ (all_rules arch entries here) (subst (ConditionsHold r) are own.conditions))
      by true (Some conditions) is are rest (inr later) = elim (rest later) [
        | inl always ↦ inl always
        | inr hold ↦ inr (any_tail (λ q. RuleHolds q r) _ (all_rules arch entries here) hold)
      ]

  -- What a number has, of which entries always match or there are rules.
  abbrev chain_by : Bool → List Rule → Option Chain
  chain_by always rules = cond (always || some_rules arch rules) (Some (cond always [] rules)) None

  -- A chain that is there matches where entries always match or a rule holds, and only there.
  chain_holds : (always : Bool) (rules : List Rule) (chain : Chain) → chain_by always rules ≡ Some chain → ChainMatches chain r
      → (always ≡ true) ⊎ Hold rules
  chain_holds always rules chain there matches = grind arith

  chain_there : (always : Bool) (rules : List Rule) → (always ≡ true) ⊎ Hold rules
      → (chain : Chain) × (chain_by always rules ≡ Some chain) × ChainMatches chain r
  chain_there true rules either = ([], refl, inl refl)
  chain_there false rules (inl is) = absurd (true≢false (sym is))
  chain_there false [] (inr hold) = absurd (any_nil (λ q. RuleHolds q r) hold)
  chain_there false (q ∷ rules) (inr hold) = (q ∷ rules, refl, inr hold)

  module _ (j : JsonFilter) (f : Filter) (is : IsPolicyOf arch j f) where
    abbrev always : Bool
    always = list_any (is_always arch here) j.rules

    abbrev rules : List Rule
    rules = all_rules arch j.rules here

    there : chain_at f.chains here ≡ chain_by always rules
    there = found_in arch j (chain_for arch j.rules) f is here ∙ grind (arith, for_either arch here j.rules)

    match_entries : Matches f r ↔ Meet j.rules
    match_entries = grind (arith, chain_holds, there, meet_of_always, meet_of_rules, chain_there, rules_of_meet)

-- The policy of each JSON filter matches exactly the records that meet one of its entries.
pub policies_match_entries : (arch : TargetArch) → PoliciesMatchEntries arch
policies_match_entries arch = λ j f is r. match_entries arch r j f is
