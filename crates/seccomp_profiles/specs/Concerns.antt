-- Between the private functions of `concerns` and `lowered`: the entries of a profile with calls by number and conditions as the
-- library has them, and what they become.
use Rattle.std.specs.Prelude.{◌≡◌, ◌≢◌, ◌↔◌, ◌<◌, ◌⊎◌, ◌+◌, ◌++◌, ℕ, List, [], ◌∷◌, All, Contains, map, length}
use Rattle.std.specs.Prelude.{Bool, nat_lt}
use Rattle.std.specs.Bool.{then_some}
use Rattle.std.specs.List.{AllPairs, AllZip, flat_map}
use Rattle.seccomp_entries.specs.declared.entry.Action.{Action}
use Rattle.seccompiler.specs.declared.backend.SeccompCmpArgLen.{SeccompCmpArgLen}
use Rattle.seccompiler.specs.Policy.{Condition}
use Rattle.seccomp_entries.specs.Entries as entries
use Rattle.seccomp_profiles.specs.Conditions.{condition_of}
use Rattle.seccomp_profiles.specs.Abis.{end_for, length_for}
use Rattle.seccomp_profiles.specs.Decision.{ConcernsOn, ShareArgument, rank, tested}
use Rattle.seccomp_profiles.specs.Lowered.{IsAskedBefore, IsOwn, rank_in}
use Rattle.seccomp_profiles.specs.declared.types.Abi.{Abi}
use Rattle.seccomp_profiles.specs.declared.types.Argument.{Argument}
use Rattle.seccomp_profiles.specs.Types.{Container, Entry}

-- What an entry says: of which calls, its action, how soon it is asked, and lists of conditions, one of which holds if the
-- entry's are met.
pub record Concern : Type 0 where
  pub numbers : List ℕ
  pub action : Action
  pub rank : ℕ
  pub alternatives : List (List Condition)

-- These are the numbers of which something holds, each once. All are below the end.
pub record AreCallsOf (end : ℕ) (P : ℕ → Type 0) (numbers : List ℕ) : Type 0 where
  pub exactly : (n : ℕ) → Contains numbers n ↔ P n
  pub once : AllPairs (λ m n. m ≢ n) numbers
  pub below : All (λ n. n < end) numbers

-- The lists of conditions of an entry: one of all its conditions; or one of each, if two are on one argument.
pub data AreListsOf (len : SeccompCmpArgLen) (args : List Argument) (lists : List (List Condition)) : Type 0 where
  together : (ShareArgument args → ⊥) → lists ≡ map (condition_of len) args ∷ [] → AreListsOf len args lists
  apart : ShareArgument args → lists ≡ map (λ a. condition_of len a ∷ []) args → AreListsOf len args lists

-- This is what the entry says in a container, beside this default action.
pub record IsConcernOf (abi : Abi) (container : Container) (default : Action) (e : Entry) (c : Concern) : Type 0 where
  pub numbers : AreCallsOf (end_for abi) (λ n. ConcernsOn abi container default n e) c.numbers
  pub action : c.action ≡ e.action
  pub rank : c.rank ≡ rank e
  pub alternatives : AreListsOf (length_for abi) (tested e.args) c.alternatives

-- ---- what they become

-- The entry of a number with one of the lists of conditions, which has its index if there are several.
abbrev pub entry_for : (place : ℕ) (action : Action) (number : ℕ) (is_alone : Bool) (index : ℕ) → List Condition → entries.Entry
entry_for place action number is_alone index conditions = record {
  place = place;
  alternative = then_some is_alone index;
  number = number;
  conditions = conditions;
  action = action;
}

-- One for each of the lists, of which the first has this index.
abbrev pub entries_from : (place : ℕ) (action : Action) (number : ℕ) (is_alone : Bool) (index : ℕ) → List (List Condition)
    → List entries.Entry
entries_from place action number is_alone index [] = []
entries_from place action number is_alone index (cs ∷ lists) =
    entry_for place action number is_alone index cs ∷ entries_from place action number is_alone (index + 1) lists

abbrev pub entries_of_lists : (place : ℕ) (action : Action) → List (List Condition) → ℕ → List entries.Entry
entries_of_lists place action lists number = entries_from place action number (nat_lt 1 (length lists)) 0 lists

-- Those of an entry at a place that says this.
abbrev pub entries_for : ℕ → Concern → List entries.Entry
entries_for place c = flat_map (entries_of_lists place c.action c.alternatives) c.numbers

-- It is asked before the entries of rank s from place i on.
abbrev pub IsAskedTo : ℕ → ℕ → entries.Entry → Type 0
IsAskedTo s i e = (rank_in e.conditions e.action < s) ⊎ ((rank_in e.conditions e.action ≡ s) × (e.place < i))

-- They are those that are asked before the entries of rank s from place i on.
pub record AreAskedTo (abi : Abi) (container : Container) (default : Action) (own : List Entry) (s i : ℕ)
    (all : List entries.Entry) : Type 0 where
  pub exactly : (e : entries.Entry) → Contains all e ↔ (IsOwn abi container default own e × IsAskedTo s i e)
  pub ordered : AllPairs IsAskedBefore all
  pub below : All (λ e. e.number < end_for abi) all

-- They are those of the entries below a rank that say this.
abbrev pub AreLoweredTo : List Concern → ℕ → List entries.Entry → Type 0
AreLoweredTo concerns s all = (abi : Abi) (container : Container) (default : Action) (own : List Entry)
    → AllZip (IsConcernOf abi container default) own concerns → AreAskedTo abi container default own s 0 all

-- What is said at a place has given its entries, if it is of this rank.
pub data IsPushed (place s : ℕ) (c : Concern) (old new : List entries.Entry) : Type 0 where
  passed_over : c.rank ≢ s → new ≡ old → IsPushed place s c old new
  pushed : c.rank ≡ s → new ≡ old ++ entries_for place c → IsPushed place s c old new
