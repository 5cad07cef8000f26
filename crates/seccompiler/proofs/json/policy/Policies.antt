-- For `JsonCompiler::make_seccomp_filter`, `JsonCompiler::widened` and `widened_numbers`: a JSON
-- filter has one policy or one first fault.
use Rattle.std.proofs.Common.{◌≡◌, ◌≢◌, ℤ, List, [], ◌∷◌, Bool, true, false, ◌||◌, cond, Option, Some, None, All, Any, refl, sym, ◌∙◌}
use Rattle.std.proofs.Common.{subst, ◌⊎◌, inl, inr, rules, Decides, arith}
use Rattle.std.specs.BTreeMap.{BTreeMap}
use Rattle.std.specs.List.{flat_map, list_any}
use Rattle.std.specs.List.Sorted.{IsStrictlySortedBy}
use Rattle.std.specs.Option.{option_to_list}
use Rattle.std.specs.Ordering.{int_cmp, int_eq}
use Rattle.std.specs.Prelude.{Vec}
use Rattle.std.specs.declared.alloc.Global.{Global}
use Rattle.std.proofs.lemmas.Bool.{true≢false, false_from_ne_true, cases_Bool}
use Rattle.std.proofs.lemmas.Bool.Decides.{Decides-int_eq}
use Rattle.std.proofs.lemmas.Cmp.{int_eq_equiv}
use Rattle.std.proofs.lemmas.List.Folds.{Any-from_list_any, list_any-from_Any}
use Rattle.std.proofs.lemmas.Map.Made.{keys_of-map_values}
use Rattle.std.proofs.lemmas.Map.Views.{All-keys_from_lookup}
use Rattle.seccompiler.specs.contracts.backend.SeccompActionEqualByParts.TheImpl.Laws as laws
use Rattle.seccompiler.specs.contracts.backend.SeccompActionPartialEq.TheImpl as action
use Rattle.seccompiler.specs.declared.backend.TargetArch.{TargetArch}
use Rattle.seccompiler.specs.declared.backend.BackendError.TheVariants.{IdenticalActions}
use Rattle.seccompiler.specs.declared.json.policy.Gathered.{Gathered}
use Rattle.seccompiler.specs.JsonPolicyOf.{Fault, refused, all_rules, chain_for, chain_at, is_for, is_always, IsFor, IsFineEntry, IsMadeOf}
use Rattle.seccompiler.specs.JsonPolicyOf.{IsPolicyOf, IsFirstFault, in_entries, in_actions}
use Rattle.seccompiler.specs.JsonGathered.{added, chain_of, AreGathered, HasChains}
use Rattle.seccompiler.specs.JsonWidened.{IsPolicyBefore}
use Rattle.seccompiler.specs.JsonTypes.{JsonRule, JsonFilter}
use Rattle.seccompiler.specs.Policy.{Rule, Chain, Filter, chains_of}
use Rattle.seccompiler.specs.Compiled.{numbers_of}
use Rattle.seccompiler.specs.Architecture.{table_of}
use Rattle.seccompiler.specs.SyscallTable.{IsTableNumber, number_of}
use Rattle.seccompiler.proofs.json.policy.EntryFaults.{all_fine_or_fault, none_wrong, one_first}
use Rattle.seccompiler.proofs.json.policy.NumberedChains.{numbered, same_chains}
use Rattle.seccompiler.proofs.TableFacts.{is_call_table}
use Rattle.seccompiler.proofs.TableNames.{number_of-all}

-- A test that decides for each item decides for any.
pub any_decides : {X : Type 0} (test : X → Bool) (P : X → Type 0) → ((x : X) → Decides (test x) (P x))
    → (xs : List X) → Decides (list_any test xs) (Any P xs)
any_decides test P each xs = grind (arith, Any-from_list_any, list_any-from_Any)

module _ (arch : TargetArch) where
  -- Whether an entry is for a number.
  pub for_decides : (number : ℤ) (entry : JsonRule) → Decides (is_for arch number entry) (IsFor arch number entry)
  for_decides number entry = grind (arith, Decides-int_eq)

  any_for : (number : ℤ) (entries : List JsonRule) → Decides (list_any (is_for arch number) entries) (Any (IsFor arch number) entries)
  any_for number = any_decides (is_for arch number) (IsFor arch number) (for_decides number)

  -- The numbers of the entries' calls.
  abbrev numbers_of_entries : List JsonRule → List ℤ
  numbers_of_entries entries = flat_map (λ (entry : JsonRule). option_to_list (number_of (table_of arch) entry.syscall)) entries

  any_number : (number : ℤ) (entries : List JsonRule) → list_any (int_eq number) (numbers_of_entries entries)
      ≡ list_any (is_for arch number) entries
  any_number number [] = refl
  any_number number (entry ∷ entries) = grind (arith, any_number number entries)

  -- Whether there are rules.
  abbrev pub some_rules : List Rule → Bool
  some_rules [] = false
  some_rules (rule ∷ rules) = true

  -- An entry for a number has no conditions, or adds a rule.
  pub for_either : (number : ℤ) (entries : List JsonRule) → list_any (is_for arch number) entries
      ≡ (list_any (is_always arch number) entries || some_rules (all_rules arch entries number))
  for_either number [] = refl
  for_either number (entry ∷ entries) = grind (arith, for_either number entries)

  -- The number of an entry's call is one of the table.
  in_range : (number : ℤ) (entry : JsonRule) → IsFor arch number entry → IsTableNumber number
  in_range number entry is = let named = number_of-all IsTableNumber (table_of arch) entry.syscall (is_call_table arch).in_range in
      rw is at named

  module _ (j : JsonFilter) where
    -- The filter of some chains.
    abbrev filter_of : List (ℤ × Chain) → Filter
    filter_of chains = record { chains = chains; mismatch_action = j.mismatch_action; match_action = j.match_action; target_arch = arch }

    -- What each number has, where these chains are meant for the numbers.
    abbrev at_number : (ℤ → Chain) → ℤ → Option Chain
    at_number meant number = cond (list_any (is_for arch number) j.rules) (Some (meant number)) None

    -- What was gathered of the entries gives the policy's chains.
    gathered_chain : (number : ℤ) → chain_of (list_any (is_always arch number) j.rules) (added (all_rules arch j.rules number) None)
        ≡ at_number (chain_for arch j.rules) number
    gathered_chain number = grind (arith, for_either number j.rules)

    -- Chains that have under each number what is meant for it, in ascending order, make the filter.
    made : (meant : ℤ → Chain) (chains : List (ℤ × Chain)) → ((number : ℤ) → chain_at chains number ≡ at_number meant number)
        → IsStrictlySortedBy int_cmp (numbers_of chains)
        → All (IsFineEntry arch) j.rules → j.mismatch_action ≢ j.match_action → IsMadeOf meant arch j (filter_of chains)
    made meant chains each ascending fine apart = grind (arith, any_for, false_from_ne_true)

    -- There is such a filter, whatever is meant.
    pub some_made : (meant : ℤ → Chain) → All (IsFineEntry arch) j.rules → j.mismatch_action ≢ j.match_action
        → (f : Filter) × IsMadeOf meant arch j f
    some_made meant fine apart =
        let all = numbered meant (numbers_of_entries j.rules) in (
          filter_of all.chains,
          made meant all.chains (λ number. grind (arith, all.each number, any_number number j.rules)) all.ascending fine apart,
        )

    -- There are both policies.
    pub both_made : All (IsFineEntry arch) j.rules × (j.mismatch_action ≢ j.match_action)
        → ((before : Filter) × IsPolicyBefore arch j before) × ((now : Filter) × IsPolicyOf arch j now)
    both_made faultless = (
      some_made (all_rules arch j.rules) faultless.0 faultless.1,
      some_made (chain_for arch j.rules) faultless.0 faultless.1,
    )

    -- What was gathered of the entries makes the policy, where the actions differ.
    pub policy_made : (entries : List JsonRule) (gathered : Gathered) (chains : BTreeMap ℤ (Vec Rule Global))
        → entries ≡ j.rules → All (IsFineEntry arch) entries → AreGathered arch entries gathered → HasChains gathered chains
        → j.mismatch_action ≢ j.match_action → IsPolicyOf arch j (filter_of (chains_of chains.entries))
    policy_made entries gathered chains these fine is has apart =
        let all = subst (λ (es : List JsonRule). AreGathered arch es gathered) these is in
        made (chain_for arch j.rules) (chains_of chains.entries)
        (λ number. grind (arith, has.each number, all.always number, all.rules number, gathered_chain number))
        (subst (IsStrictlySortedBy int_cmp) (sym (keys_of-map_values (λ (v : Vec Rule Global). v.items) chains.entries))
        has.ordered) (subst (All (IsFineEntry arch)) these fine) apart

    -- What each number has in such a filter.
    pub found_in : (meant : ℤ → Chain) (f : Filter) → IsMadeOf meant arch j f → (number : ℤ)
        → chain_at f.chains number ≡ at_number meant number
    found_in meant f is number = grind (arith, any_for number j.rules, is.chain number, is.no_other number)

    -- There is one policy.
    pub one_policy : (f g : Filter) → IsPolicyOf arch j f → IsPolicyOf arch j g → f ≡ g
    one_policy f g first second =
        let chains : f.chains ≡ g.chains =
        same_chains f.chains g.chains first.ascending second.ascending
        (λ q. found_in (chain_for arch j.rules) f first q ∙ sym (found_in (chain_for arch j.rules) g second q)) in
        λ i. record {
          chains = chains i;
          mismatch_action = (first.mismatch_action ∙ sym second.mismatch_action) i;
          match_action = (first.match_action ∙ sym second.match_action) i;
          target_arch = (first.target_arch ∙ sym second.target_arch) i;
        }

    -- What has a policy has no fault.
    pub not_both : (f : Filter) (fault : Fault) → IsPolicyOf arch j f → IsFirstFault arch j fault → ⊥
    not_both f fault is first = grind (arith, none_wrong arch j.rules fault)

    -- There is one first fault.
    pub one_fault : (a b : Fault) → IsFirstFault arch j a → IsFirstFault arch j b → a ≡ b
    one_fault a b first second = grind (arith, one_first arch j.rules a b, none_wrong arch j.rules a, none_wrong arch j.rules b)

    -- There is a policy or a first fault.
    pub policy_or_fault : ((f : Filter) × IsPolicyOf arch j f) ⊎ ((fault : Fault) × IsFirstFault arch j fault)
    policy_or_fault = elim (all_fine_or_fault arch j.rules) [
      | inr (fault, wrong) ↦ inr (fault, in_entries wrong)
      | inl fine ↦ elim (cases_Bool (action.ghosts.eq j.mismatch_action j.match_action)) [
        | inl is ↦ inr (refused IdenticalActions, in_actions fine ((laws.decides-law j.mismatch_action j.match_action).0 is) refl)
        | inr is ↦ inl (some_made (chain_for arch j.rules) fine
            (λ same. true≢false (sym ((laws.decides-law j.mismatch_action j.match_action).1 same) ∙ is)))
      ]
    ]

    -- A policy's numbers are those of a table.
    pub numbers_in_range : (f : Filter) → IsPolicyOf arch j f → All IsTableNumber (numbers_of f.chains)
    numbers_in_range f is = All-keys_from_lookup int_eq_equiv IsTableNumber f.chains (λ number there.
        grind (arith, found_in (chain_for arch j.rules) f is number, any_for number j.rules, in_range number))
