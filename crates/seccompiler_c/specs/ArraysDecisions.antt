-- What the filter of arrays decides for a record.
use Rattle.std.specs.Prelude.{◌≡◌, ℕ, ℤ, List}
use Rattle.seccompiler_c.specs.ArraysDemands.{arrays_code_of}
use Rattle.seccompiler_c.specs.ArraysPrograms.{ArraysRequest, IsNoFilter, OfFilter}
use Rattle.seccompiler_c.specs.Decisions.{Decides}
use Rattle.seccompiler_c.specs.declared.arrays_fault.ArraysFault.{ArraysFault}

-- What seccompiler_decide_rules answers: the word that the filter of the arrays decides for the record; or the code of why
-- the arrays are no filter. No layout plays a part, so the request's is the linear one.
pub data AnswersDecideRules (r : ArraysRequest) (call : List ℕ) (answer : ℤ) : Type 0 where
  decided : OfFilter r (λ layout filter. Decides call answer filter) → AnswersDecideRules r call answer
  undecided : (fault : ArraysFault) → IsNoFilter r fault → answer ≡ arrays_code_of fault → AnswersDecideRules r call answer
