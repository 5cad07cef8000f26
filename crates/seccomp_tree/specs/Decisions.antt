-- Decisions on one call: rulings in order, of which the first that holds names the word.
use Rattle.std.specs.Prelude.{ℕ, suc, ◌+◌, ◌*◌, ◌≤◌, ◌^◌, List, [], ◌∷◌, Bool, true, false, ◌&&◌, nat_eq, if◌then◌else◌, Option, Some, None}
use Rattle.std.specs.Prelude.{◌-◌, option_map, unwrap_or}
use Rattle.seccompiler.specs.declared.backend.SeccompCmpArgLen.{SeccompCmpArgLen}
use Rattle.seccompiler.specs.declared.backend.SeccompCmpArgLen.TheVariants.{Dword, Qword}
use Rattle.seccompiler.specs.Policy.{Condition, RuleHolds}
use Rattle.seccompiler.specs.declared.backend.SeccompCmpOp.{SeccompCmpOp}
use Rattle.seccompiler.specs.declared.backend.SeccompCmpOp.TheVariants.{MaskedEq}

-- Conditions, and the word that is returned if they all hold.
pub record Ruling : Type 0 where
  pub conditions : List Condition
  pub value : ℕ

-- The first of the rulings that holds for the record names this word, or none holds and it is the default.
pub data First (default : ℕ) (r : List ℕ) : List Ruling → ℕ → Type 0 where
  here : (d : Ruling) (rest : List Ruling) → RuleHolds d.conditions r → First default r (d ∷ rest) d.value
  behind : (d : Ruling) (rest : List Ruling) (w : ℕ) → (RuleHolds d.conditions r → ⊥) → First default r rest w → First default r (d ∷ rest)
      w
  nothing : First default r [] default

-- Whether the operator compares without a mask: it holds on the numbers of one interval or two.
abbrev pub is_plain : SeccompCmpOp → Bool
is_plain (MaskedEq m) = false
is_plain _ = true

-- ---- runs: rulings that compare one argument, one after the other

-- The condition of a ruling that has one, without a mask.
abbrev pub only : List Condition → Option Condition
only (c ∷ []) = if is_plain c.operator then Some c else None
only _ = None

-- Whether two lengths are one.
abbrev pub same_length : SeccompCmpArgLen → SeccompCmpArgLen → Bool
same_length Dword Dword = true
same_length Qword Qword = true
same_length _ _ = false

-- Whether there are two conditions, which compare one argument, and as much of it.
abbrev pub alike : Option Condition → Option Condition → Bool
alike (Some c) (Some d) = nat_eq c.arg_index d.arg_index && same_length c.arg_len d.arg_len
alike _ _ = false

-- How many rulings are of one run with a ruling in front of them.
abbrev pub joined : List Condition → List Ruling → ℕ
joined first [] = 0
joined first (d ∷ rest) = if alike (only first) (only d.conditions) then suc (joined d.conditions rest) else 0

-- ---- what a promise counts

-- How many instructions n steps over numbers of a length take at most.
abbrev pub part_length : SeccompCmpArgLen → ℕ → ℕ
part_length Dword n = 3 * n - 2
part_length Qword n = 13 * n - 2

-- How many steps of the machine it takes to tell at most 2 ^ k steps apart: two for each halving, and the loads.
abbrev pub part_steps : SeccompCmpArgLen → ℕ → ℕ
part_steps Dword k = 1 + 2 * k
part_steps Qword k = 5 + 4 * k

-- How many instructions a condition takes at most. It has three steps, or it has masks.
abbrev pub condition_length : SeccompCmpArgLen → SeccompCmpOp → ℕ
condition_length Dword o = if is_plain o then part_length Dword 3 else 5
condition_length Qword o = if is_plain o then part_length Qword 3 else 10

-- How many steps of the machine a condition takes at most.
abbrev pub condition_steps : SeccompCmpArgLen → SeccompCmpOp → ℕ
condition_steps Dword o = if is_plain o then part_steps Dword 2 else 3
condition_steps Qword o = if is_plain o then part_steps Qword 2 else 7

-- The lengths of conditions by themselves.
abbrev pub conditions_length : List Condition → ℕ
conditions_length [] = 0
conditions_length (c ∷ conditions) = condition_length c.arg_len c.operator + conditions_length conditions

-- The steps of conditions by themselves, a jump after each.
abbrev pub conditions_steps : List Condition → ℕ
conditions_steps [] = 0
conditions_steps (c ∷ conditions) = condition_steps c.arg_len c.operator + 1 + conditions_steps conditions

-- How many instructions rulings take at most: those of all their conditions.
abbrev pub rules_length : List Ruling → ℕ
rules_length [] = 0
rules_length (d ∷ rest) = conditions_length d.conditions + rules_length rest

-- How many steps a run takes at most that has at most 2 ^ k steps over numbers, a jump after it.
abbrev pub run_steps : List Condition → ℕ → ℕ
run_steps conditions k = unwrap_or (option_map (λ c. part_steps c.arg_len k + 1) (only conditions)) (conditions_steps conditions)

-- How many steps rulings take at most, up to the first that holds, if so many of them are of a run that is entered already. A run
-- of n rulings has at most 2 * n + 1 steps over numbers.
pub data Takes (r : List ℕ) : ℕ → List Ruling → ℕ → Type 0 where
  begins : (d : Ruling) (rest : List Ruling) (k n : ℕ) → 2 * suc (joined d.conditions rest) + 1 ≤ 2 ^ k
      → Takes r (suc (joined d.conditions rest)) (d ∷ rest) n → Takes r 0 (d ∷ rest) (run_steps d.conditions k + n)
  stops : (i : ℕ) (d : Ruling) (rest : List Ruling) → RuleHolds d.conditions r → Takes r (suc i) (d ∷ rest) 0
  passes : (i : ℕ) (d : Ruling) (rest : List Ruling) (n : ℕ) → (RuleHolds d.conditions r → ⊥) → Takes r i rest n
      → Takes r (suc i) (d ∷ rest) n
  ends : (i : ℕ) → Takes r i [] 0
