-- The warnings of a profile: those of its own, and those of its parts.
use Rattle.std.specs.Prelude.{◌≡◌, ◌≢◌, ◌<◌, ◌++◌, All, Any, Contains, IsSomeAnd, List, [], ◌∷◌, Option, None, Some, length, map, slice_get}
use Rattle.std.specs.Prelude.{⊤}
use Rattle.seccomp_entries.specs.declared.entry.Action.{Action}
use Rattle.seccomp_entries.specs.Entries.{Entry, Lowered}
use Rattle.seccompiler.specs.declared.backend.TargetArch.{TargetArch}
use Rattle.seccomp_profiles.specs.Lowered.{DecidesAs, IsLoweredProfile}
use Rattle.seccomp_profiles.specs.Types.{Container, Profile}
use Rattle.seccomp_warnings.specs.AbiEvasions.{AreAbiEvasions}
use Rattle.seccomp_warnings.specs.Doubts.{IsDoubtIn}
use Rattle.seccomp_warnings.specs.ProfileParts.{AreParts, effective_in, origin_of}
use Rattle.seccomp_warnings.specs.declared.profile.abi.AbiEvasion.{AbiEvasion}
use Rattle.seccomp_warnings.specs.declared.profile.clash.Effect.{Effect}
use Rattle.seccomp_warnings.specs.declared.profile.clash.Effect.TheVariants.{Lost, Miscompiled, Rejected, Unheard}
use Rattle.seccomp_warnings.specs.declared.profile.doubts.Doubt.{Doubt}
use Rattle.seccomp_warnings.specs.declared.profile.doubts.Doubt.TheVariants as doubt
use Rattle.seccomp_warnings.specs.declared.profile.parts.Origin.{Origin}
use Rattle.seccomp_warnings.specs.declared.profile.warnings.ProfileWarning.{ProfileWarning}
use Rattle.seccomp_warnings.specs.declared.profile.warnings.ProfileWarning.TheVariants.{AbiEvaded, Clashing, Doubtful, Evaded, Flags}
use Rattle.seccomp_warnings.specs.declared.profile.warnings.ProfileWarning.TheVariants.{Lacked, OfEntries, UnknownArchitecture, UnknownKey}
use Rattle.seccomp_warnings.specs.Evasions.{IsEvasion}
use Rattle.seccomp_warnings.specs.Parts.{Part}
use Rattle.seccomp_warnings.specs.Warnings.{AreWarned}
use Rattle.seccomp_warnings.specs.declared.code.Code.{Code}
use Rattle.seccomp_warnings.specs.declared.code.Code.TheVariants as code
use Rattle.seccomp_warnings.specs.declared.warning.Subject.{Subject}
use Rattle.seccomp_warnings.specs.declared.warning.Subject.TheVariants as subject
use Rattle.seccomp_warnings.specs.declared.warning.Warned.{Warned}
use Rattle.seccomp_warnings.specs.declared.warning.Warning.{Warning}

-- ---- codes

abbrev pub doubt_code : Doubt → Code
doubt_code (doubt.EqualsDefault place) = code.NoEffect
doubt_code (doubt.Behind first second number) = code.NoEffect
doubt_code (doubt.OpenOrder first second call) = code.OpenOrder
doubt_code (doubt.LargeErrno place) = code.RefusedByLibseccomp
doubt_code doubt.LargeDefaultErrno = code.RefusedByLibseccomp
doubt_code other = code.RuntimesDiffer

abbrev pub effect_code : Effect → Code
effect_code (Miscompiled beside) = code.LibseccompMiscompiles
effect_code (Rejected beside) = code.RefusedByLibseccomp
effect_code (Lost abi) = code.LibseccompMiscompiles
effect_code Unheard = code.RuntimesDiffer

abbrev pub code_of : ProfileWarning → Code
code_of (Doubtful d) = doubt_code d
code_of (Clashing c) = effect_code c.effect
code_of Flags = code.RuntimesDiffer
code_of (Lacked named) = code.RuntimesDiffer
code_of (UnknownKey key) = code.UnknownKey
code_of (UnknownArchitecture place) = code.RefusedByLibseccomp
code_of (OfEntries w origin) = w.code
code_of (Evaded v origin) = v.code
code_of (AbiEvaded v) = code.AbiEvades

-- ---- what is told of parts

-- It is one of the warnings of the part, but for those of the allowed codes.
pub record IsWarningOf (allowed : List Code) (p : Part) (w : Warning) : Type 0 where
  pub own : Warned
  pub are : AreWarned allowed p own
  pub among : Contains own.warnings.items w

-- Where the entries are from that a warning of a part is about: of one about its second action all.
abbrev pub origins_at : Option Entry → List (Option Origin)
origins_at None = []
origins_at (Some e) = Some (origin_of e) ∷ []

abbrev pub origins_of : Part → Subject → List (Option Origin)
origins_of p (subject.MismatchAction action) = None ∷ []
origins_of p (subject.MismatchCall call) = None ∷ []
origins_of p (subject.MatchAction action) = map (λ e. Some (origin_of e)) p.entries
origins_of p (subject.Entry place) = origins_at (slice_get p.entries place)
origins_of p (subject.Condition c) = origins_at (slice_get p.entries c.entry)

-- It is a warning of the part, about what is from there.
abbrev pub IsOfPart : (allowed : List Code) → Part → ProfileWarning → Type 0
IsOfPart allowed p (OfEntries w origin) = IsWarningOf allowed p w × Contains (origins_of p w.subject) origin
IsOfPart allowed p other = ⊥

-- Each is so of one of the parts of a profile of this default action and these effective entries.
pub record AreTold (allowed : List Code) (arch : TargetArch) (default : Action) (effective : List Entry) (told : List ProfileWarning)
    : Type 0 where
  pub parts : List Part
  pub are_parts : AreParts arch default effective parts
  pub each : All (λ w. Any (λ p. IsOfPart allowed p w) parts) told

-- ---- warnings

-- It is so of a profile that has this form. Of what libseccomp does and has nothing is said: it is found by trying. What 32-bit programs
-- may do stands in AbiEvasions.
abbrev pub IsWarning : Profile → Lowered → ProfileWarning → Type 0
IsWarning p l (Doubtful d) = IsDoubtIn p l d
IsWarning p l (Clashing c) = ⊤
IsWarning p l (Lacked named) = ⊤
IsWarning p l Flags = p.flags ≢ []
IsWarning p l (UnknownKey place) = place < length p.unknown_keys
IsWarning p l (UnknownArchitecture place) = p.unknown_architecture ≡ Some place
IsWarning p l (OfEntries w origin) =
    (allowed : List Code) × AreTold allowed l.target_arch p.default (effective_in l.entries) (OfEntries w origin ∷ [])
IsWarning p l (AbiEvaded v) = ⊥
IsWarning p l (Evaded v origin) = IsEvasion l v × IsSomeAnd (slice_get l.entries v.comparison.entry) (λ e. origin ≡ origin_of e)

-- It is so, and its code isn't allowed.
abbrev pub IsTrueOf : (allowed : List Code) → Profile → Lowered → ProfileWarning → Type 0
IsTrueOf allowed p l w = IsWarning p l w × (Contains allowed (code_of w) → ⊥)

-- In one form, which decides as it does, each warning of a profile is so of it, and its code isn't allowed; and so each evasion by 32-bit
-- programs.
pub record AreProfileWarnings (arch : TargetArch) (container : Container) (allowed : List Code) (p : Profile) (all : List ProfileWarning)
    : Type 0 where
  pub lowered : Lowered
  pub is_lowered : IsLoweredProfile arch container p lowered
  pub decides : DecidesAs arch container p lowered
  pub others : List ProfileWarning
  pub on_abis : List AbiEvasion
  pub are_all : all ≡ others ++ map AbiEvaded on_abis
  pub are : All (IsTrueOf allowed p lowered) others
  pub are_on_abis : AreAbiEvasions allowed container p lowered on_abis
