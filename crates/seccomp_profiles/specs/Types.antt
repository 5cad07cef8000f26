-- The parts of a profile that own memory, as contracts see them: records of lists.
use Rattle.std.specs.Prelude.{ℕ, Bool, ◌≤◌, All, List, Option}
use Rattle.seccomp_entries.specs.declared.entry.Action.{Action}
use Rattle.seccomp_profiles.specs.declared.types.Argument.{Argument}
use Rattle.seccomp_profiles.specs.declared.types.Flag.{Flag}
use Rattle.seccomp_profiles.specs.declared.types.Kernel.{Kernel}
use Rattle.seccomp_profiles.specs.declared.types.Runtime.{Runtime}

-- A container: the names of its capabilities, the kernel that it runs on, if one is given, and its runtime.
pub record Container : Type 0 where
  pub caps : List (List ℕ)
  pub kernel : Option Kernel
  pub runtime : Runtime

-- What has to be there, or must not be: names of capabilities, names of architectures as Go has them, and a kernel.
pub record Criteria : Type 0 where
  pub caps : List (List ℕ)
  pub arches : List (List ℕ)
  pub min_kernel : Option Kernel

-- An entry: the bytes of its calls' names, its action, its conditions in order, what it includes and what it excludes.
pub record Entry : Type 0 where
  pub names : List (List ℕ)
  pub action : Action
  pub args : List Argument
  pub includes : Criteria
  pub excludes : Criteria

-- A profile: its default action, its flags and its entries, both in order, whether it lists x86, the place of
-- the first architecture that no runtime knows, whether a supervisor listens, and the keys that no profile has.
pub record Profile : Type 0 where
  pub default : Action
  pub flags : List Flag
  pub entries : List Entry
  pub lists_x86 : Bool
  pub lists_x32 : Bool
  pub unknown_architecture : Option ℕ
  pub has_listener : Bool
  pub unknown_keys : List (List ℕ)

-- Each condition is on an argument that a call has.
abbrev pub AreOnArguments : List Argument → Type 0
AreOnArguments args = All (λ a. a.index ≤ 5) args

-- Each condition of the entries is on an argument that a call has.
abbrev pub AllOnArguments : List Entry → Type 0
AllOnArguments entries = All (λ e. AreOnArguments e.args) entries
