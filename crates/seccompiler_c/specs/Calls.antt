-- What a look-up of a system call by its name answers.
use Rattle.std.specs.Prelude.{◌≡◌, ◌≢◌, ℕ, ℤ, List, All}
use Rattle.seccompiler.specs.Architecture.{table_of}
use Rattle.seccompiler.specs.SyscallTable.{IsTableNumber, IsFirstNumber}
use Rattle.seccompiler_c.specs.Arguments.{IsNoArchitecture, OfArchitecture}
use Rattle.seccompiler_c.specs.Codes.{code_number}
use Rattle.seccompiler_c.specs.declared.code.Code.TheVariants.{UnknownArchitecture, UnknownCall}

-- What seccompiler_call_number answers: the first of these that is so.
pub data AnswersNumber (architecture : ℕ) (name : List ℕ) (answer : ℤ) : Type 0 where
  unknown_architecture : IsNoArchitecture architecture → answer ≡ code_number UnknownArchitecture → AnswersNumber architecture name answer
  unknown_call : OfArchitecture architecture (λ target. All (λ pair. pair.0 ≢ name) (table_of target)) → answer ≡ code_number UnknownCall
      → AnswersNumber architecture name answer
  found : OfArchitecture architecture (λ target. IsFirstNumber (table_of target) name answer × IsTableNumber answer)
      → AnswersNumber architecture name answer
