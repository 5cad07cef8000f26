-- The code of a rule that a caller asks for by its conditions, and why it is not given.
use Rattle.std.specs.Prelude.{◌≡◌, ◌<◌, ◌≤◌, ℤ, List, All, length, map}
use Rattle.seccompiler.specs.Layout.{rule_length}
use Rattle.seccompiler.specs.Pieces.{IsRuleCode}
use Rattle.seccompiler.specs.declared.bpf.sock_filter.{sock_filter}
use Rattle.seccompiler_c.specs.Arrays.{condition_of, HasArgument}
use Rattle.seccompiler_c.specs.ArraysDemands.{HasLength, HasOperator, arrays_code_of}
use Rattle.seccompiler_c.specs.Programs.{Holds}
use Rattle.seccompiler_c.specs.declared.arrays.seccompiler_condition.{seccompiler_condition}
use Rattle.seccompiler_c.specs.declared.arrays_fault.ArraysFault.{ArraysFault}
use Rattle.seccompiler_c.specs.declared.arrays_fault.ArraysFault.TheVariants.{OutOfMemory, Argument, Length, Operator, EmptyRule, NoRoom}

module _ (conditions : List seccompiler_condition) where
  -- The conditions are those of a rule: all that is demanded of them, in the order in which it is looked at.
  pub record AreOfRule : Type 0 where
    pub arguments : All HasArgument conditions
    pub lengths : All HasLength conditions
    pub operators : All HasOperator conditions
    pub some : 1 ≤ length conditions

  -- Why they are no rule's: the first demand that isn't met. Lack of memory may come in place of a rule alone.
  abbrev pub AreOfNoRule : ArraysFault → Type 0
  AreOfNoRule OutOfMemory = AreOfRule
  AreOfNoRule Argument = All HasArgument conditions → ⊥
  AreOfNoRule Length = All HasArgument conditions × (All HasLength conditions → ⊥)
  AreOfNoRule Operator = All HasArgument conditions × All HasLength conditions × (All HasOperator conditions → ⊥)
  AreOfNoRule EmptyRule = All HasArgument conditions × All HasLength conditions × All HasOperator conditions
      × (1 ≤ length conditions → ⊥)
  AreOfNoRule f = ⊥

  -- What seccompiler_compile_rule answers, and what the array then holds: the code of the rule of these conditions, and
  -- after it what it held; or what it held before, if they are no rule's or the code has no room, and the answer
  -- is the code of the cause.
  pub data AnswersCompileRule (old new : List sock_filter) (answer : ℤ) : Type 0 where
    compiled : AreOfRule → (code : List sock_filter) → IsRuleCode (map condition_of conditions) code → Holds old new answer code
        → AnswersCompileRule old new answer
    refused : (fault : ArraysFault) → AreOfNoRule fault → answer ≡ arrays_code_of fault → new ≡ old → AnswersCompileRule old new answer
    without_room : AreOfRule → length old < rule_length (map condition_of conditions) → answer ≡ arrays_code_of NoRoom → new ≡ old
        → AnswersCompileRule old new answer
