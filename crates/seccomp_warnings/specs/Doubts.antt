-- What is doubtful about a profile.
use Rattle.std.specs.Prelude.{◌≡◌, ◌≢◌, ◌<◌, ◌≤◌, ℕ, List, [], All, Any, Contains, Some, codes, false, length, slice_get, take}
use Rattle.seccomp_entries.specs.declared.entry.Action.{Action}
use Rattle.seccomp_entries.specs.declared.entry.Action.TheVariants.{Notify, Own}
use Rattle.seccompiler.specs.declared.backend.SeccompAction.TheVariants.{Errno}
use Rattle.seccompiler.specs.declared.backend.TargetArch.{TargetArch}
use Rattle.seccompiler.specs.Machine.{word_at}
use Rattle.seccomp_entries.specs.Entries.{IsDecider, Lowered, Meets}
use Rattle.seccomp_entries.specs.Entries as entries
use Rattle.seccomp_profiles.specs.Decision.{Concerns, IsByEntry, Matches, NoneOf, tested}
use Rattle.seccomp_profiles.specs.Lowered.{AtEntry, DecidesAs, IsLoweredProfile}
use Rattle.seccomp_profiles.specs.Types.{Container, Entry, Profile}
use Rattle.seccomp_warnings.specs.declared.profile.doubts.Doubt.{Doubt}
use Rattle.seccomp_warnings.specs.declared.profile.doubts.Doubt.TheVariants as doubt

-- The action is to return an errno of 4095 or more, which libseccomp refuses.
abbrev pub IsLargeErrno : Action → Type 0
IsLargeErrno (Own (Errno n)) = 4095 ≤ n
IsLargeErrno action = ⊥

-- The entry asks a supervisor about calls of `write`, by which runc tells the supervisor of its filter.
abbrev pub NotifiesWrite : Entry → Type 0
NotifiesWrite e = (e.action ≡ Notify) × Contains e.names (codes "write")

-- No entry without conditions concerns the calls of this number.
abbrev pub NoneSettles : TargetArch → Container → Profile → ℕ → Type 0
NoneSettles arch container p n = NoneOf (λ e. Concerns arch container p.default n e × (tested e.args ≡ [])) p.entries (length p.entries)

-- The entry matches the record, with another action than this one.
pub record IsOther (arch : TargetArch) (container : Container) (p : Profile) (r : List ℕ) (action : Action) (e : Entry)
    : Type 0 where
  pub matches : Matches arch container p.default r e
  pub differs : e.action ≢ action

-- The entry at the place is so, and concerns some call.
abbrev pub AtConcerned : TargetArch → Container → Profile → ℕ → (Entry → Type 0) → Type 0
AtConcerned arch container p place P = AtEntry p.entries place (λ e. P e × ((n : ℕ) × Concerns arch container p.default n e))

-- The first entry decides the call, and the second matches it too, with another action; none settles it.
pub record IsOpen (arch : TargetArch) (container : Container) (p : Profile) (first second : ℕ) (r : List ℕ) : Type 0 where
  pub none_settles : NoneSettles arch container p (word_at r 0)
  pub action : Action
  pub decides : IsByEntry arch container p r action first
  pub other : AtEntry p.entries second (IsOther arch container p r action)

-- The first entry decides each call of this number; another one, the second, concerns them.
pub record IsBehind (arch : TargetArch) (container : Container) (p : Profile) (first second number : ℕ) : Type 0 where
  pub decides : (r : List ℕ) → word_at r 0 ≡ number → (action : Action) × IsByEntry arch container p r action first
  pub concerns : AtEntry p.entries second (Concerns arch container p.default number)
  pub apart : first ≢ second

-- What is said of the profile is so.
abbrev pub IsDoubt : TargetArch → Container → Profile → Doubt → Type 0
IsDoubt arch container p (doubt.EqualsDefault place) = AtEntry p.entries place (λ e. e.action ≡ p.default)
IsDoubt arch container p (doubt.Behind first second number) = IsBehind arch container p first second number
IsDoubt arch container p (doubt.OpenOrder first second call) = IsOpen arch container p first second call
IsDoubt arch container p (doubt.LargeErrno place) = AtConcerned arch container p place (λ e. IsLargeErrno e.action)
IsDoubt arch container p doubt.LargeDefaultErrno = IsLargeErrno p.default
IsDoubt arch container p (doubt.ManyConditions place) = AtEntry p.entries place (λ e. 6 < length e.args)
IsDoubt arch container p doubt.NotifiesByDefault = p.default ≡ Notify
IsDoubt arch container p (doubt.NoListener place) = (p.has_listener ≡ false) × AtConcerned arch container p place (λ e. e.action ≡ Notify)
IsDoubt arch container p (doubt.NotifiesWrite place) = AtConcerned arch container p place NotifiesWrite

-- ---- between the private functions of `doubts`: in the profile in one form

-- The first entry for the calls of this number is of the profile's at this place, and has no conditions.
pub record IsSettler (all : List entries.Entry) (number place : ℕ) : Type 0 where
  pub index : ℕ
  pub entry : entries.Entry
  pub there : slice_get all index ≡ Some entry
  pub place_is : entry.place ≡ place
  pub own : entry.number ≡ number
  pub always : entry.conditions ≡ []
  pub before : All (λ e. e.number ≢ number) (take index all)

-- An entry that decides the record is of the profile's at this place, and has this action.
pub record IsDecidedAt (all : List entries.Entry) (r : List ℕ) (place : ℕ) (action : Action) : Type 0 where
  pub index : ℕ
  pub decides : IsDecider all r index
  pub place_is : decides.entry.place ≡ place
  pub action_is : decides.entry.action ≡ action

-- The record meets the entry, which is of the profile's at this place and has another action.
abbrev pub MeetsOtherwise : ℕ → List ℕ → Action → entries.Entry → Type 0
MeetsOtherwise place r action e = (e.place ≡ place) × Meets r e × (e.action ≢ action)

-- No entry without conditions is for the record's call, the first decides it, and it meets one of the second, with another action.
pub record IsOpenIn (all : List entries.Entry) (first second : ℕ) (r : List ℕ) : Type 0 where
  pub none : All (λ e. (e.number ≡ word_at r 0) × (e.conditions ≡ []) → ⊥) all
  pub action : Action
  pub decided : IsDecidedAt all r first action
  pub other : Any (MeetsOtherwise second r action) all

-- It is so of each profile that has this form, in each container.
abbrev pub IsDoubtIn : Profile → Lowered → Doubt → Type 0
IsDoubtIn p l d = (arch : TargetArch) (container : Container) → IsLoweredProfile arch container p l → DecidesAs arch container p l
    → IsDoubt arch container p d
