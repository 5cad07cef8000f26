-- The program that is given, and what is at fault in it.
use Rattle.std.specs.Prelude.{◌≡◌, ℕ, ◌*◌, ◌%◌, ◌<◌, ◌≤◌, ◌⊎◌, List, length, ⊤}
use Rattle.seccompiler.specs.declared.bpf.sock_filter.{sock_filter}
use Rattle.seccompiler.specs.Machine.{AreInRange, greatest_length}
use Rattle.seccomp_answers.specs.declared.error.AnswerError.{AnswerError}
use Rattle.seccomp_answers.specs.declared.error.AnswerError.TheVariants.{Program, OutOfMemory}
use Rattle.seccomp_answers.specs.declared.program.fault.ProgramFault.{ProgramFault}
use Rattle.seccomp_answers.specs.declared.program.fault.ProgramFault.TheVariants as fault
use Rattle.seccomp_answers.specs.Kinds.{BeginsAsInitializers}
use Rattle.seccomp_answers.specs.ProgramFaults.{IsUnfitAt}
use Rattle.seccomp_answers.specs.Compiled.{program_bytes}

-- The bytes are those of this program. Each field of an instruction lies within its type's range, so there is no other.
pub record HasBytes (bytes : List ℕ) (program : List sock_filter) : Type 0 where
  pub whole : program_bytes program ≡ bytes
  pub ranges : AreInRange program

-- The program is the one that is given in bytes. Which one a text of initializers gives isn't said.
abbrev pub IsProgramOf : List ℕ → List sock_filter → Type 0
IsProgramOf given program = BeginsAsInitializers given ⊎ HasBytes given program

-- The first fault of a program's bytes: they end inside an instruction; they are of none, or of more than a program may
-- have; or one of those is unfit.
abbrev pub IsProgramFault : List ℕ → ProgramFault → Type 0
IsProgramFault bytes (fault.Text line expected) = ⊥
IsProgramFault bytes (fault.Short rest) = (length bytes % 8 ≡ rest) × (0 < rest)
IsProgramFault bytes (fault.Length count) = (length bytes ≡ count * 8) × ((count ≡ 0) ⊎ (greatest_length < count))
IsProgramFault bytes (fault.Unfit place amiss) =
    (program : List sock_filter) × HasBytes bytes program × (length program ≤ greatest_length) × IsUnfitAt program place amiss

-- Why bytes aren't run: their first fault, or lack of memory.
abbrev pub AreRefusedBytes : List ℕ → AnswerError → Type 0
AreRefusedBytes bytes (Program fault) = IsProgramFault bytes fault
AreRefusedBytes bytes OutOfMemory = ⊤
AreRefusedBytes bytes e = ⊥

-- The error is a fault of a program, or lack of memory.
abbrev pub IsOfProgram : AnswerError → Type 0
IsOfProgram (Program fault) = ⊤
IsOfProgram OutOfMemory = ⊤
IsOfProgram e = ⊥

-- Why what is given isn't run: its first fault, or lack of memory. Which fault a text of initializers has isn't said.
abbrev pub IsRefusedProgram : List ℕ → AnswerError → Type 0
IsRefusedProgram given (Program fault) = BeginsAsInitializers given ⊎ IsProgramFault given fault
IsRefusedProgram given OutOfMemory = ⊤
IsRefusedProgram given e = ⊥
