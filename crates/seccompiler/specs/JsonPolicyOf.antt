-- Which filter is the policy of a JSON filter, and which fault is the first of one that has none.
use Rattle.std.specs.Prelude.{◌≡◌, ◌≢◌, ◌≤◌, ◌<◌, ℤ, Bool, ◌&&◌, List, [], ◌∷◌, ◌++◌, Option, Some, None, All, Any, IfSome, map}
use Rattle.std.specs.Prelude.{if◌then◌else◌, ℕ}
use Rattle.std.specs.BTreeMap.{is_at}
use Rattle.std.specs.List.{flat_map, list_any}
use Rattle.std.specs.List.Sorted.{IsStrictlySortedBy}
use Rattle.std.specs.Map.{lookup}
use Rattle.std.specs.Option.{is_none, option_eq}
use Rattle.std.specs.Ordering.{int_cmp, int_eq}
use Rattle.seccompiler.specs.declared.backend.TargetArch.{TargetArch}
use Rattle.seccompiler.specs.declared.backend.BackendError.TheVariants.{EmptyRule, IdenticalActions, InvalidArgumentNumber}
use Rattle.seccompiler.specs.declared.json.types.JsonCondition.{JsonCondition}
use Rattle.seccompiler.specs.JsonTypes.{JsonRule, JsonFilter}
use Rattle.seccompiler.specs.Policy.{Condition, Rule, Chain, Filter}
use Rattle.seccompiler.specs.Compiled.{numbers_of}
use Rattle.seccompiler.specs.Architecture.{table_of}
use Rattle.seccompiler.specs.SyscallTable.{number_of}
use Rattle.seccompiler.specs.declared.backend.BackendError.{BackendError}

-- The condition of the same four parts.
abbrev pub condition_of : JsonCondition → Condition
condition_of c = record { arg_index = c.arg_index; arg_len = c.arg_len; operator = c.operator; value = c.value }

-- The rules that an entry's conditions stand for: one that has them all, in order, or no rule if there is no list of them.
abbrev pub rules_of : Option (List JsonCondition) → List Rule
rules_of None = []
rules_of (Some conditions) = map condition_of conditions ∷ []

-- The entry's call has this number on the architecture.
abbrev pub IsFor : TargetArch → ℤ → JsonRule → Type 0
IsFor arch number entry = number_of (table_of arch) entry.syscall ≡ Some number

-- Whether a call's number, if it has one, is this one.
abbrev pub is_number : ℤ → Option ℤ → Bool
is_number number found = option_eq int_eq (Some number) found

-- Whether the entry's call has this number.
abbrev pub is_for : TargetArch → ℤ → JsonRule → Bool
is_for arch number entry = is_number number (number_of (table_of arch) entry.syscall)

-- The rules that an entry adds to the chain of a number: its own, if its call has this number.
abbrev pub rules_for : TargetArch → ℤ → JsonRule → List Rule
rules_for arch number entry = if is_for arch number entry then rules_of entry.conditions else []

-- Whether the entry's call has this number and the entry has no list of conditions.
abbrev pub is_always : TargetArch → ℤ → JsonRule → Bool
is_always arch number entry = is_for arch number entry && is_none entry.conditions

-- The chain under a number, if there is one.
abbrev pub chain_at : List (ℤ × Chain) → ℤ → Option Chain
chain_at chains number = lookup (is_at (int_cmp number)) chains

-- Nothing is wrong with a list of conditions: each index is at most 5, and the list is not empty.
pub record AreFineArgs (conditions : List JsonCondition) : Type 0 where
  pub indices : All (λ c. c.arg_index ≤ 5) conditions
  pub some : conditions ≢ []

-- Nothing is wrong with an entry: its call has a number; and nothing is wrong with its list of conditions, if there is one.
pub record IsFineEntry (arch : TargetArch) (entry : JsonRule) : Type 0 where
  pub number : ℤ
  pub is_for : IsFor arch number entry
  pub conditions : IfSome entry.conditions AreFineArgs

-- The filter is made of a JSON filter on an architecture, with the chains that are meant for the numbers. It has the JSON
-- filter's actions, which differ. Nothing is wrong with any entry. The numbers that have a chain are those of the entries'
-- calls, and each has the chain that is meant for it.
pub record IsMadeOf (meant : ℤ → Chain) (arch : TargetArch) (j : JsonFilter) (f : Filter) : Type 0 where
  pub mismatch_action : f.mismatch_action ≡ j.mismatch_action
  pub match_action : f.match_action ≡ j.match_action
  pub target_arch : f.target_arch ≡ arch
  pub different : j.mismatch_action ≢ j.match_action
  pub entries : All (IsFineEntry arch) j.rules
  pub chain : (number : ℤ) → Any (IsFor arch number) j.rules → chain_at f.chains number ≡ Some (meant number)
  pub no_other : (number : ℤ) → (Any (IsFor arch number) j.rules → ⊥) → chain_at f.chains number ≡ None
  pub ascending : IsStrictlySortedBy int_cmp (numbers_of f.chains)

-- The rules of a number: in order, one for each entry with this number and with conditions, which has these conditions, in order.
abbrev pub all_rules : TargetArch → List JsonRule → ℤ → Chain
all_rules arch entries number = flat_map (rules_for arch number) entries

-- The chain of a number: the empty one if some entry with this number has no conditions, else the rules of the number.
abbrev pub chain_for : TargetArch → List JsonRule → ℤ → Chain
chain_for arch entries number = if list_any (is_always arch number) entries then [] else all_rules arch entries number

-- The filter is the policy of a JSON filter on an architecture: each number of an entry has its chain, so that a call with
-- an entry without conditions matches always, whatever other entries it has.
abbrev pub IsPolicyOf : TargetArch → JsonFilter → Filter → Type 0
IsPolicyOf arch j f = IsMadeOf (chain_for arch j.rules) arch j f

-- What can be wrong with a JSON filter on an architecture.
pub data Fault : Type 0 where
  unknown_call : List ℕ → TargetArch → Fault
  refused : BackendError → Fault

-- The first thing that is wrong with a list of conditions: an index is above 5; else the list is empty.
pub data IsFaultIn (conditions : List JsonCondition) (fault : Fault) : Type 0 where
  index_above : Any (λ c. 5 < c.arg_index) conditions → fault ≡ refused InvalidArgumentNumber → IsFaultIn conditions fault
  empty_args : conditions ≡ [] → fault ≡ refused EmptyRule → IsFaultIn conditions fault

-- The first thing that is wrong with an entry: its call has no number on the architecture; else what is wrong with the
-- list of its conditions.
pub data IsFaultOf (arch : TargetArch) (entry : JsonRule) (fault : Fault) : Type 0 where
  unknown_name : number_of (table_of arch) entry.syscall ≡ None → fault ≡ unknown_call entry.syscall arch → IsFaultOf arch entry fault
  wrong_args : (number : ℤ) (conditions : List JsonCondition) → IsFor arch number entry → entry.conditions ≡ Some conditions
      → IsFaultIn conditions fault → IsFaultOf arch entry fault

-- The first fault of some entries: that of an entry, if nothing is wrong with those in front of it.
pub record IsFirstOf (arch : TargetArch) (entries : List JsonRule) (fault : Fault) : Type 0 where
  pub front : List JsonRule
  pub entry : JsonRule
  pub back : List JsonRule
  pub whole : entries ≡ front ++ entry ∷ back
  pub fine : All (IsFineEntry arch) front
  pub wrong : IsFaultOf arch entry fault

-- The first fault of a JSON filter on an architecture: that of its entries; or, if nothing is wrong with any entry,
-- that its two actions are equal.
pub data IsFirstFault (arch : TargetArch) (j : JsonFilter) (fault : Fault) : Type 0 where
  in_entries : IsFirstOf arch j.rules fault → IsFirstFault arch j fault
  in_actions : All (IsFineEntry arch) j.rules → j.mismatch_action ≡ j.match_action → fault ≡ refused IdenticalActions
      → IsFirstFault arch j fault
