-- Versions of the kernel as texts.
use Rattle.std.specs.Prelude.{◌≡◌, ◌==◌, ℕ, ◌<◌, ◌^◌, List, [], Option, Some, None, ⊤}
use Rattle.std.specs.List.{before_first, after_first}
use Rattle.std.specs.Str.Parse.{IsNumeral, digits_value}
use Rattle.serde_json.specs.Data.{Data, string}
use Rattle.seccomp_profiles.specs.Shape.{IsAbsent}
use Rattle.seccomp_profiles.specs.declared.types.Kernel.{Kernel}

-- The text is one decimal digit or more and nothing else, and they write this number, which 32 bits hold.
pub record IsNumberText (text : List ℕ) (n : ℕ) : Type 0 where
  pub digits : IsNumeral 10 text
  pub value : n ≡ digits_value 10 text
  pub fits : n < 2 ^ 32

-- The text is this version: its major number stands in front of the first full stop, and its minor number after it.
pub record IsVersion (text : List ℕ) (k : Kernel) : Type 0 where
  pub major : IsNumberText (before_first (λ c. c == 46) text) k.major
  pub minor : IsNumberText (after_first (λ c. c == 46) text) k.minor

-- The value is a text that is this version.
abbrev pub IsKernel : Data → Kernel → Type 0
IsKernel (string text) k = IsVersion text k
IsKernel _ k = ⊥

-- What stands there is this version; nothing, null and the empty text are none.
abbrev pub IsKernelOr : Option Data → Option Kernel → Type 0
IsKernelOr (Some (string [])) None = ⊤
IsKernelOr o None = IsAbsent o
IsKernelOr None (Some k) = ⊥
IsKernelOr (Some d) (Some k) = IsKernel d k
