-- What is gathered of the entries of a JSON filter on the way to its policy: what the private steps promise each other.
use Rattle.std.specs.Prelude.{◌≡◌, ℕ, ℤ, pos, negsuc, get_or, Bool, true, false, ◌||◌, List, [], ◌∷◌, ◌++◌, Vec}
use Rattle.std.specs.Prelude.{Option, Some, None, unwrap_or, option_map}
use Rattle.std.specs.BTreeMap.{BTreeMap, IsOrdered}
use Rattle.std.specs.List.{flat_map, list_any}
use Rattle.std.specs.Ordering.{int_cmp}
use Rattle.std.specs.declared.alloc.Global.{Global}
use Rattle.seccompiler.specs.declared.backend.TargetArch.{TargetArch}
use Rattle.seccompiler.specs.declared.json.types.JsonCondition.{JsonCondition}
use Rattle.seccompiler.specs.declared.json.policy.Gathered.{Gathered}
use Rattle.seccompiler.specs.JsonTypes.{JsonRule}
use Rattle.seccompiler.specs.JsonPolicyOf.{chain_at, is_always, rules_for}
use Rattle.seccompiler.specs.Policy.{Rule, Chain, chains_of}

-- The entry of these parts.
abbrev pub entry_of : List ℕ → Option (Vec JsonCondition Global) → JsonRule
entry_of name conditions = record { syscall = name; conditions = option_map (λ all. all.items) conditions }

-- What a number has, with these items at its end. It has nothing before its first item.
abbrev pub added : {X : Type 0} → List X → Option (List X) → Option (List X)
added [] found = found
added (item ∷ items) found = Some (unwrap_or found [] ++ item ∷ items)

-- The rules that were gathered under a number.
abbrev pub rules_at : Gathered → ℤ → Option Chain
rules_at gathered number = chain_at (chains_of gathered.rules.entries) number

-- What is told of a number, from 0 on.
abbrev pub told_of : List Bool → ℤ → Bool
told_of told (pos n) = get_or told n false
told_of told (negsuc n) = false

-- Whether the number is one that matches always.
abbrev pub is_always_at : Gathered → ℤ → Bool
is_always_at gathered number = told_of gathered.always number

-- What was gathered has an entry more: its number has its rule at its end, or is one that matches always.
pub record HasAdded (arch : TargetArch) (entry : JsonRule) (old new : Gathered) : Type 0 where
  pub rules : (number : ℤ) → rules_at new number ≡ added (rules_for arch number entry) (rules_at old number)
  pub always : (number : ℤ) → is_always_at new number ≡ (is_always_at old number || is_always arch number entry)

-- This was gathered of these entries: under each number the rules of its entries, in order; and whether one has no conditions.
pub record AreGathered (arch : TargetArch) (entries : List JsonRule) (gathered : Gathered) : Type 0 where
  pub rules : (number : ℤ) → rules_at gathered number ≡ added (flat_map (rules_for arch number) entries) None
  pub always : (number : ℤ) → is_always_at gathered number ≡ list_any (is_always arch number) entries

-- The chain of a number: the empty one if some entry with this number has no conditions; else the rules that were
-- gathered under it, if there are any.
abbrev pub chain_of : Bool → Option Chain → Option Chain
chain_of true found = Some []
chain_of false found = found

-- The chains are those of what was gathered.
pub record HasChains (gathered : Gathered) (chains : BTreeMap ℤ (Vec Rule Global)) : Type 0 where
  pub each : (number : ℤ) → chain_at (chains_of chains.entries) number
      ≡ chain_of (is_always_at gathered number) (rules_at gathered number)
  pub ordered : IsOrdered int_cmp chains
