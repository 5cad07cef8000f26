-- Conditions that hold whatever their argument is, and conditions that never do.
use Rattle.std.specs.Prelude.{ℕ, ◌<◌, ◌^◌, ◌-◌}
use Rattle.seccompiler.specs.declared.backend.SeccompCmpOp.{SeccompCmpOp}
use Rattle.seccompiler.specs.declared.backend.SeccompCmpOp.TheVariants.{MaskedEq}
use Rattle.seccompiler.specs.Policy.{Condition, Compares, operator_part, part_of}
use Rattle.seccomp_warnings.specs.declared.warning.Comparison.{Comparison}

-- The condition at a place of the entry at a place.
abbrev pub comparison_at : (entry place : ℕ) → Condition → Comparison
comparison_at entry place c =
    record { entry = entry; place = place; arg_index = c.arg_index; arg_len = c.arg_len; operator = c.operator; value = c.value }

abbrev pub condition_of : Comparison → Condition
condition_of c = record { arg_index = c.arg_index; arg_len = c.arg_len; operator = c.operator; value = c.value }

-- The condition's comparison, on some argument: which one plays no part in whether it holds for all values or for none.
abbrev pub condition_in : Comparison → Condition
condition_in c = record { arg_index = 0; arg_len = c.arg_len; operator = c.operator; value = c.value }

-- The condition holds for this value of its argument. It holds on a record (`Holds`) exactly if it does for that of the record.
abbrev pub HoldsFor : Condition → ℕ → Type 0
HoldsFor c x = Compares (operator_part c.arg_len c.operator) (part_of c.arg_len x) (part_of c.arg_len c.value)

-- It holds for every value: an argument has 64 bits.
abbrev pub HoldsForAll : Condition → Type 0
HoldsForAll c = (x : ℕ) → x < 2 ^ 64 → HoldsFor c x

-- It holds for no value.
abbrev pub HoldsForNone : Condition → Type 0
HoldsForNone c = (x : ℕ) → x < 2 ^ 64 → HoldsFor c x → ⊥

-- The mask of the operator, or the greatest number.
abbrev pub last_of : SeccompCmpOp → ℕ
last_of (MaskedEq mask) = mask
last_of operator = 2 ^ 64 - 1
