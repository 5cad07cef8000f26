-- The parts of a profile of which warnings are told.
use Rattle.std.specs.Prelude.{◌≡◌, ◌≢◌, ◌↔◌, ◌++◌, ◌||◌, ℕ, zero, suc, Bool, true, false, if◌then◌else◌, List, [], ◌∷◌}
use Rattle.std.specs.Prelude.{Contains, length, map, nat_eq, take}
use Rattle.std.specs.List.{AllPairs, filter}
use Rattle.seccomp_entries.specs.declared.entry.Action.{Action}
use Rattle.seccomp_entries.specs.declared.entry.Action.TheVariants.{Own}
use Rattle.seccompiler.specs.declared.backend.SeccompAction.TheVariants.{Allow}
use Rattle.seccompiler.specs.declared.backend.TargetArch.{TargetArch}
use Rattle.seccomp_entries.specs.Entries.{Entry, value_of}
use Rattle.seccomp_warnings.specs.declared.profile.parts.Origin.{Origin}
use Rattle.seccomp_warnings.specs.Parts.{Part}

-- Where an entry is from.
abbrev pub origin_of : Entry → Origin
origin_of e = record { entry = e.place; condition = e.alternative; number = e.number }

-- ---- the entries that decide some call

-- Of these entries those for the calls of this number, in their order.
abbrev pub entries_of : (number : ℕ) → List Entry → List Entry
entries_of number all = filter (λ e. nat_eq e.number number) all

-- The first of entries for one call has no conditions, so it decides each of its calls.
abbrev pub is_settled : List Entry → Bool
is_settled [] = false
is_settled (e ∷ es) = nat_eq (length e.conditions) 0

-- Of entries for one call those that decide some.
abbrev pub deciding : List Entry → List Entry
deciding es = if is_settled es then take 1 es else es

-- Those for the calls of the numbers below this one.
unfoldable pub effective_below : ℕ → List Entry → List Entry
effective_below zero all = []
effective_below (suc number) all = effective_below number all ++ deciding (entries_of number all)

abbrev pub effective_in : List Entry → List Entry
effective_in all = effective_below 463 all

-- ---- parts

abbrev pub is_allow : Action → Bool
is_allow (Own Allow) = true
is_allow action = false

-- The entry is in the part of an action: it has the action, or that is to allow, whose part is that of the default action.
abbrev pub is_in : Action → Entry → Bool
is_in action e = is_allow action || nat_eq (value_of e.action) (value_of action)

-- What holds beside the entries of an action: all else is allowed, and beside those that are allowed it is the default action.
abbrev pub beside : (default action : Action) → Action
beside default action = if is_allow action then default else Own Allow

-- The part of an action: the effective entries with it, in their order; of allow all, whatever their action is.
abbrev pub part_of : TargetArch → (default : Action) → (effective : List Entry) → Action → Part
part_of arch default effective action = record {
  target_arch = arch;
  actions = record { mismatch = beside default action; matching = action };
  entries = filter (is_in action) effective;
}

-- Both are to allow: the action has no part, as all else is allowed beside it.
abbrev pub AllowBoth : (default : Action) → Action → Type 0
AllowBoth default action = (action ≡ Own Allow) × (default ≡ Own Allow)

-- Of these actions exactly those that have a part, each once.
pub record AreActions (default : Action) (asked actions : List Action) : Type 0 where
  pub exactly : (action : Action) → Contains actions action ↔ (Contains asked action × (AllowBoth default action → ⊥))
  pub once : AllPairs (λ (a b : Action). a ≢ b) actions

-- To allow, and the actions of entries.
abbrev pub actions_in : List Entry → List Action
actions_in entries = Own Allow ∷ map (λ (e : Entry). e.action) entries

-- The parts of a profile of this default action and these effective entries: that of each action that has one, once.
pub record AreParts (arch : TargetArch) (default : Action) (effective : List Entry) (parts : List Part) : Type 0 where
  pub actions : List Action
  pub are_actions : AreActions default (actions_in effective) actions
  pub are : parts ≡ map (part_of arch default effective) actions
