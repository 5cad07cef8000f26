-- Arguments of calls of which some bits are known.
use Rattle.std.specs.Prelude.{◌≡◌, ℕ, List, Some, slice_get, bit_and}
use Rattle.seccompiler.specs.Machine.{argument_at}
use Rattle.seccomp_compare.specs.declared.known.Known.{Known}

-- The number has these bits.
abbrev pub HasBits : Known → ℕ → Type 0
HasBits k x = bit_and x k.mask ≡ k.value

-- The bits that are not known stand as 0.
abbrev pub KeepsBits : Known → Type 0
KeepsBits k = bit_and k.value k.mask ≡ k.value

-- The arguments of the record have these bits.
pub record HasKnown (part : List Known) (r : List ℕ) : Type 0 where
  pub each : (i : ℕ) (k : Known) → slice_get part i ≡ Some k → HasBits k (argument_at r i)

-- The bits that are not known stand as 0 in each.
pub record AreKept (part : List Known) : Type 0 where
  pub each : (i : ℕ) (k : Known) → slice_get part i ≡ Some k → KeepsBits k
