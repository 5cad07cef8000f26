-- The conditions of an entry of a profile, as the library has them.
use Rattle.std.specs.Prelude.{◌≡◌, ◌<◌, ℕ, List, [], ◌∷◌, length, map, slice_index_or, Option, Some, None}
use Rattle.seccompiler.specs.declared.backend.SeccompCmpArgLen.{SeccompCmpArgLen}
use Rattle.seccompiler.specs.declared.backend.SeccompCmpArgLen.TheVariants.{Qword}
use Rattle.seccompiler.specs.declared.backend.SeccompCmpOp.{SeccompCmpOp}
use Rattle.seccompiler.specs.declared.backend.SeccompCmpOp.TheVariants as library
use Rattle.seccompiler.specs.Policy.{Condition}
use Rattle.seccomp_profiles.specs.declared.types.Argument.{Argument}
use Rattle.seccomp_profiles.specs.declared.types.Operator.{Operator}
use Rattle.seccomp_profiles.specs.declared.types.Operator.TheVariants.{Ne, Lt, Le, Eq, Ge, Gt, MaskedEq}
use Rattle.seccomp_profiles.specs.Decision.{ShareArgument}

-- The library's operator, and what it compares with: a mask is the operator's.
abbrev pub compared_by : Operator → ℕ → ℕ → SeccompCmpOp × ℕ
compared_by Ne v w = (library.Ne, v)
compared_by Lt v w = (library.Lt, v)
compared_by Le v w = (library.Le, v)
compared_by Eq v w = (library.Eq, v)
compared_by Ge v w = (library.Ge, v)
compared_by Gt v w = (library.Gt, v)
compared_by MaskedEq v w = (library.MaskedEq v, w)

-- So much of the argument is compared.
abbrev pub condition_of : SeccompCmpArgLen → Argument → Condition
condition_of len a = record {
  arg_index = a.index;
  arg_len = len;
  operator = (compared_by a.operator a.value a.value_two).0;
  value = (compared_by a.operator a.value a.value_two).1;
}

-- The conditions of an entry: all of them; or the one at a place, if two are on one argument.
pub data AreConditionsIn (len : SeccompCmpArgLen) (args : List Argument) : Option ℕ → List Condition → Type 0 where
  together : (ShareArgument args → ⊥) → AreConditionsIn len args None (map (condition_of len) args)
  alone : ShareArgument args → (k : ℕ) (a : Argument) → k < length args → a ≡ slice_index_or args k a
      → AreConditionsIn len args (Some k) (condition_of len a ∷ [])

abbrev pub AreConditionsOf : List Argument → Option ℕ → List Condition → Type 0
AreConditionsOf args = AreConditionsIn Qword args
