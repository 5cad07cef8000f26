-- The codes that stand in place of an answer, with the numbers that the C header gives them, and what they mean in a sentence.
use Rattle.std.specs.Prelude.{◌≡◌, ℕ, ℤ, pos, neg_ℤ, List, codes}
use Rattle.seccompiler_c.specs.declared.code.Code.{Code}
use Rattle.seccompiler_c.specs.declared.code.Code.TheVariants as code
use Rattle.seccompiler_c.specs.declared.fault.Fault.{Fault}
use Rattle.seccompiler_c.specs.declared.fault.Fault.TheVariants as fault

-- The number of a code: each has one of its own.
abbrev pub code_number : Code → ℤ
code_number code.OutOfMemory = neg_ℤ (pos 1)
code_number code.UnknownArchitecture = neg_ℤ (pos 2)
code_number code.UnknownLayout = neg_ℤ (pos 3)
code_number code.Rejected = neg_ℤ (pos 4)
code_number code.NoFilter = neg_ℤ (pos 5)
code_number code.TooLarge = neg_ℤ (pos 6)
code_number code.NoRoom = neg_ℤ (pos 7)
code_number code.NotChecked = neg_ℤ (pos 8)
code_number code.UnknownRelation = neg_ℤ (pos 9)
code_number code.UnknownCall = neg_ℤ (pos 10)
code_number code.UnknownAction = neg_ℤ (pos 11)
code_number code.BadCounts = neg_ℤ (pos 12)
code_number code.BadArgument = neg_ℤ (pos 13)
code_number code.UnknownLength = neg_ℤ (pos 14)
code_number code.UnknownOperator = neg_ℤ (pos 15)
code_number code.EmptyRule = neg_ℤ (pos 16)
code_number code.EqualActions = neg_ℤ (pos 17)
code_number code.BadOrder = neg_ℤ (pos 18)
code_number code.BadNumber = neg_ℤ (pos 19)
code_number code.Undecided = neg_ℤ (pos 20)
code_number code.NoFile = neg_ℤ (pos 100)

-- What a code means.
abbrev pub code_text : Code → List ℕ
code_text code.OutOfMemory = codes "Out of memory."
code_text code.UnknownArchitecture = codes "Unknown architecture."
code_text code.UnknownLayout = codes "Unknown layout."
code_text code.Rejected = codes "The policy is rejected."
code_text code.NoFilter = codes "The policy has no such filter."
code_text code.TooLarge = codes "The program would have more than 4096 instructions."
code_text code.NoRoom = codes "The program has more instructions than the array."
code_text code.NotChecked = codes "The instructions are no program that may be run."
code_text code.UnknownRelation = codes "Unknown relation."
code_text code.UnknownCall = codes "Unknown system call."
code_text code.UnknownAction = codes "Unknown action."
code_text code.BadCounts = codes "The counts don't add up to the rules or the conditions."
code_text code.BadArgument = codes "The argument of a condition is above 5."
code_text code.UnknownLength = codes "The length of a condition is neither 4 nor 8."
code_text code.UnknownOperator = codes "The operator of a condition is above 6."
code_text code.EmptyRule = codes "A rule has no conditions."
code_text code.EqualActions = codes "The two actions are the same."
code_text code.BadOrder = codes "The numbers of the chains don't ascend; sort their rules with them."
code_text code.BadNumber = codes "The number of a chain is below 0 or above 4294967295."
code_text code.Undecided = codes "The comparison is undecided."
code_text code.NoFile = codes "The file can't be read."

-- The sentence of a number: what the code means whose number it is; or that there is none.
pub data IsSentence (number : ℤ) (said : List ℕ) : Type 0 where
  of_code : (c : Code) → number ≡ code_number c → said ≡ code_text c → IsSentence number said
  of_none : ((c : Code) → number ≡ code_number c → ⊥) → said ≡ codes "Unknown code." → IsSentence number said

-- The code of a fault.
abbrev pub fault_code : Fault → Code
fault_code fault.OutOfMemory = code.OutOfMemory
fault_code fault.UnknownArchitecture = code.UnknownArchitecture
fault_code fault.UnknownLayout = code.UnknownLayout
fault_code (fault.Text e) = code.Rejected
fault_code fault.NoFilter = code.NoFilter
fault_code fault.NoIndex = code.NoFilter
fault_code (fault.Filter e) = code.TooLarge
fault_code (fault.NoRoom n) = code.NoRoom

-- Its number.
abbrev pub code_of : Fault → ℤ
code_of f = code_number (fault_code f)
