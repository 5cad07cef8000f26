-- What is demanded of arrays, and which demand is the first that isn't met.
use Rattle.std.specs.Prelude.{◌≡◌, ◌≢◌, ◌≤◌, ◌⊎◌, ℕ, ℤ, List, All, length, map, ⊤}
use Rattle.std.specs.List.{sum_by}
use Rattle.std.specs.List.Sorted.{IsStrictlySortedBy}
use Rattle.std.specs.Ordering.{int_cmp}
use Rattle.seccompiler.specs.Policy.{IsCallNumber}
use Rattle.seccompiler.specs.declared.backend.BackendError.{BackendError}
use Rattle.seccompiler.specs.declared.backend.BackendError.TheVariants as backend
use Rattle.seccomp_tree.specs.declared.error.FilterError.{FilterError}
use Rattle.seccomp_tree.specs.declared.error.FilterError.TheVariants as filter
use Rattle.seccompiler.specs.declared.backend.SeccompAction.{SeccompAction}
use Rattle.seccompiler.specs.declared.backend.SeccompAction.TheVariants.{Allow, Errno, KillThread, KillProcess, Log, Trace, Trap}
use Rattle.seccompiler_c.specs.Arrays.{HasArgument, HasConditions, conditions_of_rule, rules_of_chain, number_of}
use Rattle.seccompiler_c.specs.Codes.{code_number}
use Rattle.seccompiler_c.specs.declared.code.Code.{Code}
use Rattle.seccompiler_c.specs.declared.code.Code.TheVariants as code
use Rattle.seccompiler_c.specs.declared.arrays.seccompiler_chain.{seccompiler_chain}
use Rattle.seccompiler_c.specs.declared.arrays.seccompiler_rule.{seccompiler_rule}
use Rattle.seccompiler_c.specs.declared.arrays.seccompiler_condition.{seccompiler_condition}
use Rattle.seccompiler_c.specs.declared.arrays_fault.ArraysFault.{ArraysFault}
use Rattle.seccompiler_c.specs.declared.arrays_fault.ArraysFault.TheVariants.{OutOfMemory, UnknownArchitecture, UnknownLayout}
use Rattle.seccompiler_c.specs.declared.arrays_fault.ArraysFault.TheVariants.{UnknownAction, Counts, Argument, Length, Operator, EmptyRule}
use Rattle.seccompiler_c.specs.declared.arrays_fault.ArraysFault.TheVariants.{EqualActions, Order, Number, TooLarge, NoRoom}

-- The code of a fault: each has one of its own, and those that a text's request can have are that request's.
abbrev pub arrays_fault_code : ArraysFault → Code
arrays_fault_code OutOfMemory = code.OutOfMemory
arrays_fault_code UnknownArchitecture = code.UnknownArchitecture
arrays_fault_code UnknownLayout = code.UnknownLayout
arrays_fault_code TooLarge = code.TooLarge
arrays_fault_code NoRoom = code.NoRoom
arrays_fault_code UnknownAction = code.UnknownAction
arrays_fault_code Counts = code.BadCounts
arrays_fault_code Argument = code.BadArgument
arrays_fault_code Length = code.UnknownLength
arrays_fault_code Operator = code.UnknownOperator
arrays_fault_code EmptyRule = code.EmptyRule
arrays_fault_code EqualActions = code.EqualActions
arrays_fault_code Order = code.BadOrder
arrays_fault_code Number = code.BadNumber

-- Its number.
abbrev pub arrays_code_of : ArraysFault → ℤ
arrays_code_of f = code_number (arrays_fault_code f)

-- The backend's refusal of a filter, as a fault.
abbrev pub arrays_fault_of : BackendError → ArraysFault
arrays_fault_of backend.OutOfMemory = OutOfMemory
arrays_fault_of refusal = TooLarge

-- The refusal of a filter in a layout, as a fault.
abbrev pub arrays_refusal : FilterError → ArraysFault
arrays_refusal filter.OutOfMemory = OutOfMemory
arrays_refusal refusal = TooLarge

-- The kind of an action, which is its word without data (linux/seccomp.h).
abbrev pub kind_of : SeccompAction → ℕ
kind_of Allow = 0x7fff0000
kind_of (Errno x) = 0x00050000
kind_of KillThread = 0x00000000
kind_of KillProcess = 0x80000000
kind_of Log = 0x7ffc0000
kind_of (Trace x) = 0x7ff00000
kind_of Trap = 0x00030000

-- The number is the action's, if it has one.
abbrev pub HasData : SeccompAction → ℕ → Type 0
HasData (Errno x) n = x ≡ n
HasData (Trace x) n = x ≡ n
HasData action n = ⊤

-- The action has this kind, and this number if it has one.
abbrev pub IsAction : ℕ → ℕ → SeccompAction → Type 0
IsAction kind number action = (kind ≡ kind_of action) × HasData action number

-- No action has this kind.
abbrev pub IsNoAction : ℕ → Type 0
IsNoAction kind = (action : SeccompAction) → kind ≡ kind_of action → ⊥

-- The length is known.
abbrev pub HasLength : seccompiler_condition → Type 0
HasLength c = (c.length ≡ 4) ⊎ (c.length ≡ 8)

-- The operator is known.
abbrev pub HasOperator : seccompiler_condition → Type 0
HasOperator c = c.op ≤ 6

-- The number is a call number.
abbrev pub HasCallNumber : seccompiler_chain → Type 0
HasCallNumber c = IsCallNumber c.number

module _ (chains : List seccompiler_chain) (rules : List seccompiler_rule) (conditions : List seccompiler_condition)
    (mismatch matched : SeccompAction) where
  -- The chains count the rules, and the rules the conditions.
  abbrev pub AddUp : Type 0
  AddUp = (sum_by rules_of_chain chains ≡ length rules) × (sum_by conditions_of_rule rules ≡ length conditions)

  -- The numbers of the chains ascend strictly.
  abbrev pub Ascend : Type 0
  Ascend = IsStrictlySortedBy int_cmp (map number_of chains)

  -- All that is demanded of the arrays and the actions, in the order in which it is looked at.
  pub record AreMet : Type 0 where
    pub counts : AddUp
    pub arguments : All HasArgument conditions
    pub lengths : All HasLength conditions
    pub operators : All HasOperator conditions
    pub some : All HasConditions rules
    pub differ : mismatch ≢ matched
    pub ascending : Ascend
    pub numbers : All HasCallNumber chains

  -- This demand isn't met, and those before it are.
  abbrev pub IsFirstUnmet : ArraysFault → Type 0
  IsFirstUnmet Counts = AddUp → ⊥
  IsFirstUnmet Argument = AddUp × (All HasArgument conditions → ⊥)
  IsFirstUnmet Length = AddUp × All HasArgument conditions × (All HasLength conditions → ⊥)
  IsFirstUnmet Operator = AddUp × All HasArgument conditions × All HasLength conditions × (All HasOperator conditions → ⊥)
  IsFirstUnmet EmptyRule = AddUp × All HasArgument conditions × All HasLength conditions × All HasOperator conditions
      × (All HasConditions rules → ⊥)
  IsFirstUnmet EqualActions = AddUp × All HasArgument conditions × All HasLength conditions × All HasOperator conditions
      × All HasConditions rules × (mismatch ≡ matched)
  IsFirstUnmet Order = AddUp × All HasArgument conditions × All HasLength conditions × All HasOperator conditions
      × All HasConditions rules × (mismatch ≢ matched) × (Ascend → ⊥)
  IsFirstUnmet Number = AddUp × All HasArgument conditions × All HasLength conditions × All HasOperator conditions
      × All HasConditions rules × (mismatch ≢ matched) × Ascend × (All HasCallNumber chains → ⊥)
  IsFirstUnmet f = ⊥
