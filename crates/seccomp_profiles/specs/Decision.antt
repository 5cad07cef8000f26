-- When an entry of a profile applies, and what a profile decides.
use Rattle.std.specs.Prelude.{◌≡◌, ◌≢◌, ◌<◌, ◌≤◌, ℕ, pos, ◌⊎◌, List, [], ◌∷◌, Option, Some, None, All, Any, Contains, IfSome}
use Rattle.std.specs.Prelude.{bit_and, codes, ⊤, ◌↔◌, ◌||◌, Bool, true, false, IsTrue, length, nat_eq, nat_le, slice_index_or, suc}
use Rattle.std.specs.Prelude.{if◌then◌else◌}
use Rattle.std.specs.List.{list_any}
use Rattle.seccomp_entries.specs.declared.entry.Action.{Action}
use Rattle.seccomp_entries.specs.declared.entry.Action.TheVariants.{Notify, Own}
use Rattle.seccompiler.specs.declared.backend.SeccompAction.TheVariants.{Allow, Errno, KillThread, KillProcess, Log, Trace, Trap}
use Rattle.seccompiler.specs.declared.backend.SeccompCmpArgLen.{SeccompCmpArgLen}
use Rattle.seccompiler.specs.declared.backend.TargetArch.{TargetArch}
use Rattle.seccompiler.specs.declared.backend.TargetArch.TheVariants.{x86_64, aarch64, riscv64}
use Rattle.seccompiler.specs.Machine.{argument_at, word_at}
use Rattle.seccompiler.specs.Policy.{part_of}
use Rattle.seccomp_profiles.specs.Abis.{is_listed, length_for, machine_of, number_for}
use Rattle.seccomp_profiles.specs.declared.types.Abi.{Abi}
use Rattle.seccomp_profiles.specs.declared.types.Abi.TheVariants.{Native}
use Rattle.seccomp_profiles.specs.declared.types.Argument.{Argument}
use Rattle.seccomp_profiles.specs.declared.types.Kernel.{Kernel}
use Rattle.seccomp_profiles.specs.declared.types.Operator.{Operator}
use Rattle.seccomp_profiles.specs.declared.types.Operator.TheVariants.{Ne, Lt, Le, Eq, Ge, Gt, MaskedEq}
use Rattle.seccomp_profiles.specs.declared.types.Runtime.TheVariants.{Runc}
use Rattle.seccomp_profiles.specs.Types.{Container, Entry, Profile}

-- ---- when an entry applies

-- The name of an architecture as Go has it, by which `arches` name it.
abbrev pub go_name : TargetArch → List ℕ
go_name x86_64 = codes "amd64"
go_name aarch64 = codes "arm64"
go_name riscv64 = codes "riscv64"

-- The kernel is this one, or a newer one: by the major number, and if they have the same one, by the minor number. If
-- no kernel is given, it is newer than each.
abbrev pub IsAtLeast : Option Kernel → Kernel → Type 0
IsAtLeast None least = ⊤
IsAtLeast (Some k) least = (least.major < k.major) ⊎ ((k.major ≡ least.major) × (least.minor ≤ k.minor))

-- The entry applies to a container on this architecture: all capabilities that it includes are there, and the architecture
-- is one that it includes, if it includes any; nothing that it excludes is there. The kernel is the one that it includes or a
-- newer one, if it includes one; and if it excludes one, the kernel is neither that one nor a newer one.
pub record Applies (arch : TargetArch) (container : Container) (e : Entry) : Type 0 where
  pub each_cap : All (λ cap. Contains container.caps cap) e.includes.caps
  pub this_arch : (e.includes.arches ≡ []) ⊎ Contains e.includes.arches (go_name arch)
  pub no_cap : All (λ cap. Contains container.caps cap → ⊥) e.excludes.caps
  pub no_arch : Contains e.excludes.arches (go_name arch) → ⊥
  pub from_kernel : IfSome e.includes.min_kernel (IsAtLeast container.kernel)
  pub before_kernel : IfSome e.excludes.min_kernel (λ k. IsAtLeast container.kernel k → ⊥)

-- ---- conditions on arguments

-- The number x compares with the number v as the operator says; or x and the number w have the same bits under the mask v
-- (libseccomp, seccomp_rule_add(3): the masked argument value is equal to the masked datum value).
abbrev pub Meets : Operator → ℕ → ℕ → ℕ → Type 0
Meets Ne x v w = x ≢ v
Meets Lt x v w = x < v
Meets Le x v w = x ≤ v
Meets Eq x v w = x ≡ v
Meets Ge x v w = v ≤ x
Meets Gt x v w = v < x
Meets MaskedEq x v w = bit_and x v ≡ bit_and w v

-- A call record meets the condition: so much of the argument is compared with as much of the numbers.
abbrev pub IsMet : SeccompCmpArgLen → List ℕ → Argument → Type 0
IsMet len r a = Meets a.operator (part_of len (argument_at r a.index)) (part_of len a.value) (part_of len a.value_two)

-- Whether two of the conditions are on one argument.
abbrev pub share : List Argument → Bool
share [] = false
share (a ∷ args) = list_any (λ (b : Argument). nat_eq b.index a.index) args || share args

abbrev pub ShareArgument : List Argument → Type 0
ShareArgument args = IsTrue (share args)

-- A call record meets the conditions of an entry: all of them; or one of them, if two are on one argument (a runtime then
-- takes them for alternatives).
pub data AreMet (len : SeccompCmpArgLen) (r : List ℕ) (args : List Argument) : Type 0 where
  all_met : (ShareArgument args → ⊥) → All (IsMet len r) args → AreMet len r args
  one_met : ShareArgument args → Any (IsMet len r) args → AreMet len r args

abbrev pub is_idle_by : Operator → ℕ → Bool
is_idle_by MaskedEq mask = nat_eq mask 0
is_idle_by operator value = false

-- The condition holds whatever the argument is: no bit is compared.
abbrev pub is_idle : Argument → Bool
is_idle a = is_idle_by a.operator a.value

-- All of them do.
abbrev pub are_idle : List Argument → Bool
are_idle [] = true
are_idle (a ∷ args) = if is_idle a then are_idle args else false

-- No call fails the conditions: all of them hold whatever the arguments are, or one that is enough.
abbrev pub pass_all : List Argument → Bool
pass_all args = if share args then list_any is_idle args else are_idle args

-- The conditions that are tested: none if no call fails them by a mask of 0, so that the entry counts as one without conditions (libseccomp
-- makes no test of a mask of 0, and runtimes add each condition that is enough as a rule of its own).
unfoldable pub tested : List Argument → List Argument
tested args = if pass_all args then [] else args

-- ---- what a profile decides

-- The text is the name of the call of this number.
abbrev pub IsNameOf : Abi → ℕ → List ℕ → Type 0
IsNameOf abi n name = number_for abi name ≡ Some (pos n)

-- The entry concerns the calls of this number, in a container: it applies there, it names the call, and its action isn't the
-- default one. A runtime passes over an entry that says what holds without it.
pub record ConcernsOn (abi : Abi) (container : Container) (default : Action) (n : ℕ) (e : Entry) : Type 0 where
  pub applies : Applies (machine_of abi) container e
  pub named : Any (IsNameOf abi n) e.names
  pub other : e.action ≢ default

-- Of an architecture's own calls.
abbrev pub Concerns : TargetArch → Container → Action → ℕ → Entry → Type 0
Concerns arch = ConcernsOn (Native arch)

-- How much an action permits (seccomp(2)): the strictest has the least number.
abbrev pub strictness : Action → ℕ
strictness (Own KillProcess) = 0
strictness (Own KillThread) = 1
strictness (Own Trap) = 2
strictness (Own (Errno n)) = 3
strictness Notify = 4
strictness (Own (Trace n)) = 5
strictness (Own Log) = 6
strictness (Own Allow) = 7

-- How soon an entry is asked: one without conditions before all others, and of the others the strictest first.
abbrev pub rank_by : List Argument → Action → ℕ
rank_by [] action = 0
rank_by (a ∷ args) action = suc (strictness action)

abbrev pub rank : Entry → ℕ
rank e = rank_by (tested e.args) e.action

-- The entry concerns the record's call, and the record meets its conditions.
abbrev pub MatchesOn : Abi → Container → Action → List ℕ → Entry → Type 0
MatchesOn abi container default r e = ConcernsOn abi container default (word_at r 0) e × AreMet (length_for abi) r (tested e.args)

abbrev pub Matches : TargetArch → Container → Action → List ℕ → Entry → Type 0
Matches arch = MatchesOn (Native arch)

-- Of the first n that have a property, the one at this place has the least rank, and is the first that has this rank.
pub record IsFirstLeast {X : Type 0} (rank_of : X → ℕ) (P : X → Type 0) (xs : List X) (n place : ℕ) (x : X) : Type 0 where
  pub within : place < n
  pub there : x ≡ slice_index_or xs place x
  pub holds : P x
  pub before : (k : ℕ) (y : X) → k < place → y ≡ slice_index_or xs k y → P y → rank_of x < rank_of y
  pub others : (k : ℕ) (y : X) → k < n → y ≡ slice_index_or xs k y → P y → rank_of x ≤ rank_of y

-- None of the first n has the property.
abbrev pub NoneOf : {X : Type 0} → (X → Type 0) → List X → ℕ → Type 0
NoneOf {X = X} P xs n = (k : ℕ) (y : X) → k < n → y ≡ slice_index_or xs k y → P y → ⊥

-- ---- what holds if no entry matches

-- The default action of a number. On x86_64 the thread is killed that makes a call by a number of x32, which has bit 30
-- (asm/unistd.h); libseccomp takes the greatest number for none of these. Errno 38 (ENOSYS) answers numbers above all that are named.
abbrev pub default_of : Abi → Action → Bool → ℕ → Action
default_of (Native x86_64) default above n = if nat_le 0x40000000 n then (if nat_le 0xffffffff n then default else Own KillThread)
    else (if above then Own (Errno 38) else default)
default_of abi default above n = if above then Own (Errno 38) else default

-- An entry that applies names the call of this number.
abbrev pub IsNamed : Abi → Container → List Entry → ℕ → Type 0
IsNamed abi container entries n = Any (λ (e : Entry). Applies (machine_of abi) container e × Any (IsNameOf abi n) e.names) entries

-- The action lets a call be made, if only for a tracer.
abbrev pub lets : Action → Bool
lets (Own Allow) = true
lets (Own Log) = true
lets (Own (Trace n)) = true
lets action = false

-- runc answers the calls of this number with ENOSYS: the number is above all that are named, of which one isn't 0, and the default
-- action lets no call be made (libcontainer/seccomp/patchbpf).
pub record IsAbove (abi : Abi) (container : Container) (p : Profile) (n : ℕ) : Type 0 where
  pub runc : container.runtime ≡ Runc
  pub denies : lets p.default ≡ false
  pub some : (m : ℕ) × (0 < m) × IsNamed abi container p.entries m
  pub above : (m : ℕ) → IsNamed abi container p.entries m → m < n

-- Calls whose architecture isn't listed kill the thread (libseccomp).
pub record IsDefault (abi : Abi) (container : Container) (p : Profile) (n : ℕ) (action : Action) : Type 0 where
  pub above : Bool
  pub is_above : IsTrue above ↔ IsAbove abi container p n
  pub is : action ≡ (if is_listed abi p then default_of abi p.default above n else Own KillThread)

-- ---- what a profile decides

-- Of these entries the one at this place decides the record, as this action: of those that match it is asked first.
pub record IsByEntryOf (abi : Abi) (container : Container) (default : Action) (own : List Entry) (r : List ℕ) (action : Action)
    (place : ℕ) : Type 0 where
  pub entry : Entry
  pub first : IsFirstLeast rank (MatchesOn abi container default r) own (length own) place entry
  pub is : action ≡ entry.action

abbrev pub IsByEntry : TargetArch → Container → Profile → List ℕ → Action → ℕ → Type 0
IsByEntry arch container p = IsByEntryOf (Native arch) container p.default p.entries

-- What a profile decides by these entries of a call record of the architecture, in a container. Of the entries that match the first
-- without conditions decides, whatever stands beside it. Else it is the first of the strictest; if they name several actions, the
-- profile leaves the answer open. If none matches, it is the default action.
pub data IsDecisionOf (abi : Abi) (container : Container) (p : Profile) (own : List Entry) (r : List ℕ) (action : Action) : Type 0 where
  by_entry : (place : ℕ) → IsByEntryOf abi container p.default own r action place → IsDecisionOf abi container p own r action
  by_default : NoneOf (MatchesOn abi container p.default r) own (length own)
      → IsDefault abi container p (word_at r 0) action → IsDecisionOf abi container p own r action

-- What it decides of an architecture's own calls.
abbrev pub IsProfileDecision : TargetArch → Container → Profile → List ℕ → Action → Type 0
IsProfileDecision arch container p = IsDecisionOf (Native arch) container p p.entries
