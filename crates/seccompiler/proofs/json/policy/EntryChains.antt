-- For `add_rule`, `widened_numbers` and `chains_of_numbers`: the chains of a map, after one was written or some were put in.
use Rattle.std.proofs.Common.{◌≡◌, ℤ, ◌++◌, List, [], ◌∷◌, Vec, Global, cond, Option, Some, None, option_map, refl, sym, ap}
use Rattle.std.proofs.Common.{◌∙◌, unwrap_or, arith}
use Rattle.std.specs.BTreeMap.{BTreeMap, is_at, IsFromIterResult}
use Rattle.std.specs.Map.{lookup, keys_of, update_all}
use Rattle.std.specs.List.Sorted.{IsStrictlySortedBy}
use Rattle.std.specs.Option.{is_some}
use Rattle.std.specs.Ordering.{int_cmp, int_eq}
use Rattle.std.proofs.lemmas.Bool.Decides.{Decides-int_eq}
use Rattle.std.proofs.lemmas.Cmp.{int_eq_equiv}
use Rattle.std.proofs.lemmas.Map.Keys.{IsDistinct-from_sorted}
use Rattle.std.proofs.lemmas.Map.Made.{lookup-map_values, update_all_none}
use Rattle.seccompiler.specs.Policy.{Rule, Chain, chains_of}
use Rattle.seccompiler.specs.JsonGathered.{added}
use Rattle.seccompiler.specs.JsonPolicyOf.{chain_at}

-- Numbers, each with the rules of its chain.
abbrev pub Pairs : Type 0
Pairs = List (ℤ × Vec Rule Global)

-- What a map holds under a number.
abbrev pub held : Pairs → ℤ → Option (Vec Rule Global)
held entries number = lookup (is_at (int_cmp number)) entries

-- The chain of what is held.
abbrev pub list_of : Option (Vec Rule Global) → Option Chain
list_of found = option_map (λ v. v.items) found

-- The chain under a number, of what the map holds there.
pub chain_held : (entries : Pairs) (number : ℤ) → chain_at (chains_of entries) number ≡ list_of (held entries number)
chain_held entries number = lookup-map_values (λ (v : Vec Rule Global). v.items) (is_at (int_cmp number)) entries

-- A rule was put at the end of a number's chain, which began empty.
pub chain_with_rule : (old new : Pairs) (number : ℤ) (before after start : Vec Rule Global) (rule : Rule) (q : ℤ)
    → held new q ≡ cond (int_eq number q) (Some after) (held old q) → before ≡ unwrap_or (held old number) start
    → start.items ≡ [] → after.items ≡ before.items ++ rule ∷ []
    → chain_at (chains_of new) q ≡ added (cond (int_eq q number) (rule ∷ []) []) (chain_at (chains_of old) q)
chain_with_rule old new number before after start rule q written found empty longer = grind (arith, chain_held, Decides-int_eq)

-- The chain of a number in the map that is made of some pairs.
abbrev pub made_at : Pairs → ℤ → Option Chain
made_at pairs number = list_of (update_all int_eq (λ _. None) pairs number)

-- In the map that is made of a map's entries it is the one under it.
pub made_of_rules : (rules : BTreeMap ℤ (Vec Rule Global)) → IsStrictlySortedBy int_cmp (keys_of rules.entries) → (q : ℤ)
    → made_at rules.entries q ≡ chain_at (chains_of rules.entries) q
made_of_rules rules order q = ap list_of (update_all_none int_eq_equiv int_eq (λ x y. refl) rules.entries q
    (IsDistinct-from_sorted int_cmp (keys_of rules.entries) order)) ∙ sym (chain_held rules.entries q)

-- The map finds what it is made of.
pub made_found : (pairs : Pairs) (all : BTreeMap ℤ (Vec Rule Global)) → IsFromIterResult int_cmp pairs all → (q : ℤ)
    → chain_at (chains_of all.entries) q ≡ made_at pairs q
made_found pairs all made q = chain_held all.entries q ∙ ap list_of (made.0 q)

-- A number has rules where the map holds some.
pub some_held : (entries : Pairs) (number : ℤ) → is_some (chain_at (chains_of entries) number) ≡ is_some (held entries number)
some_held entries number = grind (arith, chain_held entries number)
