-- A profile in one form: which entries it has, and in which order they are asked.
use Rattle.std.specs.Prelude.{◌≡◌, ◌≢◌, ◌↔◌, ◌<◌, ℕ, List, [], ◌∷◌, length, slice_index_or, suc, Some, Contains}
use Rattle.std.specs.List.{AllPairs}
use Rattle.seccomp_entries.specs.declared.entry.Action.{Action}
use Rattle.seccompiler.specs.declared.backend.TargetArch.{TargetArch}
use Rattle.seccompiler.specs.Policy.{Condition}
use Rattle.seccomp_entries.specs.Entries.{value_of}
use Rattle.seccomp_tree.specs.Decided.{DecisionSet, default_for}
use Rattle.seccomp_entries.specs.Entries.{IsDecided, IsDecider, Lowered, Meets}
use Rattle.seccomp_entries.specs.Entries as entries
use Rattle.seccomp_entries.specs.Rulings.{AreDecisions}
use Rattle.seccomp_profiles.specs.Abis.{length_for, machine_of}
use Rattle.seccomp_profiles.specs.Conditions.{AreConditionsIn}
use Rattle.seccomp_profiles.specs.Decision.{ConcernsOn, IsByEntryOf, IsDefault, MatchesOn, strictness, tested}
use Rattle.seccomp_profiles.specs.ProfileDecisions.{IsWordOf}
use Rattle.seccomp_profiles.specs.Taken.{entries_on}
use Rattle.seccomp_profiles.specs.declared.types.Abi.{Abi}
use Rattle.seccomp_profiles.specs.declared.types.Abi.TheVariants.{Native}
use Rattle.seccomp_profiles.specs.Types.{Container, Entry, Profile}

-- It is the entry at this place.
abbrev pub IsEntryAt : List Entry → ℕ → Entry → Type 0
IsEntryAt own place x = (place < length own) × (x ≡ slice_index_or own place x)

-- Of the entry at this place something holds.
abbrev pub AtEntry : List Entry → ℕ → (Entry → Type 0) → Type 0
AtEntry own place P = (x : Entry) × IsEntryAt own place x × P x

-- It is of the entry at its place: of a number that this one concerns, with its conditions and its action.
pub record IsOwn (abi : Abi) (container : Container) (default : Action) (own : List Entry) (e : entries.Entry) : Type 0 where
  pub entry : Entry
  pub within : e.place < length own
  pub there : entry ≡ slice_index_or own e.place entry
  pub concerns : ConcernsOn abi container default e.number entry
  pub conditions : AreConditionsIn (length_for abi) (tested entry.args) e.alternative e.conditions
  pub action : e.action ≡ entry.action

-- How soon it is asked, as its entry of the profile: one without conditions before all others, and of the others the strictest first.
abbrev pub rank_in : List Condition → Action → ℕ
rank_in [] action = 0
rank_in (c ∷ cs) action = suc (strictness action)

-- The first is asked before the second: it is of a lesser rank; or of the same, and of an entry in front; or they are of one entry, and of
-- two numbers, or of one number and the first has a condition in front.
pub data IsAskedBefore (e f : entries.Entry) : Type 0 where
  by_rank : rank_in e.conditions e.action < rank_in f.conditions f.action → IsAskedBefore e f
  by_place : rank_in e.conditions e.action ≡ rank_in f.conditions f.action → e.place < f.place → IsAskedBefore e f
  by_number : e.place ≡ f.place → e.number ≢ f.number → IsAskedBefore e f
  by_condition : e.place ≡ f.place → (j k : ℕ) → e.alternative ≡ Some j → f.alternative ≡ Some k → j < k → IsAskedBefore e f

-- The profile in one form, by these entries: exactly these, each once, in the order in which they are asked.
pub record IsLoweredOf (abi : Abi) (container : Container) (p : Profile) (own : List Entry) (l : Lowered) : Type 0 where
  pub target_arch : l.target_arch ≡ machine_of abi
  pub defaults : (n : ℕ) → (action : Action) × IsDefault abi container p n action × (default_for l.defaults n ≡ value_of action)
  pub exactly : (e : entries.Entry) → Contains l.entries e ↔ IsOwn abi container p.default own e
  pub ordered : AllPairs IsAskedBefore l.entries

-- What is decided is what the profile decides by these entries, and nothing else is; the entry that decides is of the one that decides
-- in the profile, and one that a record meets of one that matches it.
pub record DecidesOf (abi : Abi) (container : Container) (p : Profile) (own : List Entry) (l : Lowered) : Type 0 where
  pub decides : (r : List ℕ) (w : ℕ) → IsDecided l r w → IsWordOf abi container p own r w
  pub only : (r : List ℕ) (w v : ℕ) → IsDecided l r w → IsWordOf abi container p own r v → v ≡ w
  pub by_entry : (r : List ℕ) (index : ℕ) (is : IsDecider l.entries r index)
      → IsByEntryOf abi container p.default own r is.entry.action is.entry.place
  pub matched : (r : List ℕ) (e : entries.Entry) → Contains l.entries e → Meets r e
      → AtEntry own e.place (MatchesOn abi container p.default r)

-- The same for an architecture's own calls, by all entries of the profile.
abbrev pub IsLoweredProfile : TargetArch → Container → Profile → Lowered → Type 0
IsLoweredProfile arch container p = IsLoweredOf (Native arch) container p p.entries

abbrev pub DecidesAs : TargetArch → Container → Profile → Lowered → Type 0
DecidesAs arch container p = DecidesOf (Native arch) container p p.entries

-- The same for whosever calls, by the entries that count for them. A record is as IsSeenAs has it.
abbrev pub IsLoweredOn : Abi → Container → Profile → Lowered → Type 0
IsLoweredOn abi container p = IsLoweredOf abi container p (entries_on abi p)

abbrev pub DecidesOn : Abi → Container → Profile → Lowered → Type 0
DecidesOn abi container p = DecidesOf abi container p (entries_on abi p)

-- These are the profile's own decisions: those of the profile in one form.
pub record AreOwn (arch : TargetArch) (container : Container) (p : Profile) (d : DecisionSet) : Type 0 where
  pub lowered : Lowered
  pub is_lowered : IsLoweredProfile arch container p lowered
  pub are : AreDecisions lowered d
