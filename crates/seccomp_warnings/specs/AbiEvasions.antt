-- Calls of 32-bit programs by which a profile is evaded: a call of x86_64 that it denies, and one of i386 or x32 that does the same, and
-- that it lets through.
use Rattle.std.specs.Prelude.{◌≡◌, ℕ, ◌+◌, ◌*◌, ◌<◌, List, All, Contains, Option, Some, None, IsTrue, codes, length, option_map}
use Rattle.std.specs.Prelude.{pos, slice_get}
use Rattle.std.specs.Map.{lookup}
use Rattle.std.specs.Option.{unwrap_or}
use Rattle.std.specs.Str.{bytes_eq}
use Rattle.seccompiler.specs.declared.backend.TargetArch.{TargetArch}
use Rattle.seccompiler.specs.declared.backend.TargetArch.TheVariants.{x86_64}
use Rattle.seccompiler.specs.Machine.{word_at}
use Rattle.seccomp_names.specs.CallTables.{pairs_of}
use Rattle.seccomp_names.specs.declared.call_table.CallTable.{CallTable}
use Rattle.seccomp_names.specs.declared.call_table.CallTable.TheVariants.{Ipc, Socketcall}
use Rattle.seccomp_entries.specs.Drawers.{AreFiled}
use Rattle.seccomp_entries.specs.Entries.{Entry, Lowered}
use Rattle.seccomp_entries.specs.Reasons.{IsReason}
use Rattle.seccomp_entries.specs.declared.reason.Reason.{Reason}
use Rattle.seccomp_entries.specs.declared.reason.Reason.TheVariants as reason
use Rattle.seccomp_profiles.specs.Abis.{IsSeenAs, is_of, number_for}
use Rattle.seccomp_profiles.specs.Lowered.{DecidesOn, IsLoweredOn}
use Rattle.seccomp_profiles.specs.Types.{Container, Profile}
use Rattle.seccomp_profiles.specs.declared.types.Abi.{Abi}
use Rattle.seccomp_profiles.specs.declared.types.Abi.TheVariants.{I386, X32}
use Rattle.seccomp_warnings.specs.CallWarnings.{IsNumberOf}
use Rattle.seccomp_warnings.specs.Evasions.{DeniesCall, IsCallOf, LetsThrough}
use Rattle.seccomp_warnings.specs.ProfileParts.{origin_of}
use Rattle.seccomp_warnings.specs.declared.code.Code.{Code}
use Rattle.seccomp_warnings.specs.declared.code.Code.TheVariants.{AbiEvades}
use Rattle.seccomp_warnings.specs.declared.profile.abi.AbiEvasion.{AbiEvasion}
use Rattle.seccomp_warnings.specs.declared.profile.abi.Sides.{Sides}
use Rattle.seccomp_warnings.specs.declared.profile.parts.Origin.{Origin}

-- The machine on which both programs run.
abbrev pub machine : TargetArch
machine = x86_64

abbrev pub i386 : Abi
i386 = I386

-- The call has this name.
abbrev pub IsNamed : Abi → (name : List ℕ) → List ℕ → Type 0
IsNamed abi name r = number_for abi name ≡ Some (pos (word_at r 0))

-- Two calls have the same arguments, which 32 bits hold.
abbrev pub HaveSameArguments : (denied passed : List ℕ) → Type 0
HaveSameArguments denied passed = (i : ℕ) → i < 6 → (word_at passed (16 + 8 * i) ≡ word_at denied (16 + 8 * i))
    × (word_at passed (16 + 8 * i + 4) ≡ 0) × (word_at denied (16 + 8 * i + 4) ≡ 0)

-- The call of i386 has this name, and its first argument is what the table has beside the other name.
abbrev pub StandsFor : CallTable → (call name : List ℕ) → List ℕ → Type 0
StandsFor table call name r = IsNamed I386 call r × (lookup (bytes_eq name) (pairs_of table) ≡ Some (word_at r 16)) × (word_at r 20 ≡ 0)

-- The second call does what the first one does, which has this name: it has the same name and arguments; or it is `socketcall` or `ipc` of
-- i386, of which the first argument says which call is made (socketcall(2), ipc(2)).
pub data DoesSame (abi : Abi) (name denied passed : List ℕ) : Type 0 where
  by_name : IsNamed abi name passed → HaveSameArguments denied passed → DoesSame abi name denied passed
  by_socketcall : abi ≡ I386 → StandsFor Socketcall (codes "socketcall") name passed → DoesSame abi name denied passed
  by_ipc : abi ≡ I386 → StandsFor Ipc (codes "ipc") name passed → DoesSame abi name denied passed

-- Where the entry is from that decides, or the nearest one with its condition that doesn't hold.
abbrev pub missed_in : ℕ → Entry → Origin
missed_in condition e = record { entry = e.place; condition = Some (unwrap_or e.alternative condition); number = e.number }

abbrev pub origin_in : List Entry → Reason → Option Origin
origin_in entries (reason.Entry index number) = option_map origin_of (slice_get entries index)
origin_in entries (reason.NoMatch count number miss) = option_map (missed_in miss.condition) (slice_get entries miss.entry)
origin_in entries other = None

-- The first call is of the machine, and denied by these entries, for the reason that its place tells; the second one is of these programs,
-- does the same, and is let through by the others.
pub record IsBetween (abi : Abi) (own others : Lowered) (v : AbiEvasion) : Type 0 where
  pub of_abi : v.abi ≡ abi
  pub name : List ℕ
  pub is_name : IsNumberOf own.target_arch name (word_at v.denied 0)
  pub is_own : IsCallOf own.target_arch (word_at v.denied 0) v.denied
  pub is_denied : DeniesCall own v.denied
  pub why : Reason
  pub is_why : IsReason own.target_arch own.entries v.denied why
  pub origin : v.origin ≡ origin_in own.entries why
  pub is_other : IsTrue (is_of abi v.passed)
  pub seen : List ℕ
  pub is_seen : IsSeenAs abi v.passed seen
  pub is_let_through : LetsThrough others seen
  pub same : DoesSame abi name v.denied v.passed

-- So it is of a profile that has this form for the calls of the machine, and of what runtimes make of it for 32-bit programs.
pub record IsAbiEvasion (abi : Abi) (container : Container) (p : Profile) (own : Lowered) (v : AbiEvasion) : Type 0 where
  pub others : Lowered
  pub is_lowered : IsLoweredOn abi container p others
  pub decides : DecidesOn abi container p others
  pub between : IsBetween abi own others v

-- Each is of one of the two kinds of 32-bit programs, and none is of an allowed code.
pub data IsEvadedOn (container : Container) (p : Profile) (own : Lowered) (v : AbiEvasion) : Type 0 where
  on_i386 : IsAbiEvasion I386 container p own v → IsEvadedOn container p own v
  on_x32 : IsAbiEvasion X32 container p own v → IsEvadedOn container p own v

pub record IsToldOn (allowed : List Code) (container : Container) (p : Profile) (own : Lowered) (v : AbiEvasion) : Type 0 where
  pub is_machine : own.target_arch ≡ x86_64
  pub is_not_allowed : Contains allowed AbiEvades → ⊥
  pub is_evaded : IsEvadedOn container p own v

abbrev pub AreAbiEvasions : (allowed : List Code) → Container → Profile → Lowered → List AbiEvasion → Type 0
AreAbiEvasions allowed container p own all = All (IsToldOn allowed container p own) all

-- Between the private functions: the entries of both sides are filed.
abbrev pub AreFiledSides : Sides → Type 0
AreFiledSides s = AreFiled s.own.now.entries (length s.own.now.entries) s.own_files.now
    × AreFiled s.others.now.entries (length s.others.now.entries) s.other_files.now
