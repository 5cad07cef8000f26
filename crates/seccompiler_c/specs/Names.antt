-- The names of a text's filters, one by one.
use Rattle.std.specs.Prelude.{◌≡◌, ◌≤◌, ◌↔◌, ℕ, ℤ, pos, List, [], Some, Contains, length, slice_get, ⊤}
use Rattle.std.specs.Cmp.Lexicographic.{slice_cmp}
use Rattle.std.specs.List.Sorted.{IsStrictlySortedBy}
use Rattle.std.specs.Ordering.{nat_cmp}
use Rattle.serde_json.specs.Data.{Data}
use Rattle.seccompiler.specs.JsonAnswers.{OfValue, TellsFrontendFault}
use Rattle.seccompiler.specs.JsonFilters.{AreAll, IsSomeFilter}
use Rattle.seccompiler.specs.JsonShape.{Has}
use Rattle.seccompiler.specs.JsonSteps.{IsBeforePolicies}
use Rattle.seccompiler.specs.declared.backend.TargetArch.{TargetArch}
use Rattle.seccompiler.specs.declared.json.error.JsonFrontendError.{JsonFrontendError}
use Rattle.seccompiler.specs.declared.json.error.JsonFrontendError.TheVariants as frontend
use Rattle.seccompiler_c.specs.Codes.{code_of}
use Rattle.seccompiler_c.specs.Messages.{HoldsMessage, TellsPolicyFault}
use Rattle.seccompiler_c.specs.declared.fault.Fault.{Fault}
use Rattle.seccompiler_c.specs.declared.fault.Fault.TheVariants.{OutOfMemory, Text, NoIndex}

-- The value is an object of filters, and these are its names, each once and in ascending order of bytes.
pub record AreNames (d : Data) (names : List (List ℕ)) : Type 0 where
  pub filters : AreAll IsSomeFilter d
  pub ascending : IsStrictlySortedBy (slice_cmp nat_cmp) names
  pub each : (name : List ℕ) → Contains names name ↔ ((value : Data) × Has d name value)

-- The text is one of filters, and P holds of their names.
abbrev pub OfNames : List ℕ → (List (List ℕ) → Type 0) → Type 0
OfNames text P = OfValue text (λ d. (names : List (List ℕ)) × AreNames d names × P names)

-- The error reports why a text is none of filters: on whichever architecture, since none plays a part. It is no lack of
-- memory, and no reader's.
abbrev pub TellsShapeFault : List ℕ → JsonFrontendError → Type 0
TellsShapeFault text frontend.OutOfMemory = ⊥
TellsShapeFault text (frontend.Read e) = ⊥
TellsShapeFault text e = IsBeforePolicies e × ((target : TargetArch) → TellsFrontendFault target text e)

-- Why no name is reported: the text is none of filters; or it has no more filters than the index. Lack of memory may
-- come in place of both.
abbrev pub IsUnnamed : List ℕ → ℕ → Fault → Type 0
IsUnnamed text index OutOfMemory = ⊤
IsUnnamed text index (Text e) = TellsShapeFault text e
IsUnnamed text index NoIndex = OfNames text (λ names. length names ≤ index)
IsUnnamed text index f = ⊥

-- What seccompiler_filter_names answers, and what the buffer of the name and the message then hold: the name, its length,
-- and an empty sentence; or the code of why there is none, and a sentence that tells it, and the buffer is as it was. Whether
-- such a fault has a place is the same on all architectures.
pub data AnswersNames (text : List ℕ) (index : ℕ) (name_old name_new : List ℕ) (answer : ℤ)
    (message_old message_new : List ℕ) : Type 0 where
  named : (name : List ℕ) → OfNames text (λ names. slice_get names index ≡ Some name) → answer ≡ pos (length name)
      → HoldsMessage name name_old name_new → HoldsMessage [] message_old message_new
      → AnswersNames text index name_old name_new answer message_old message_new
  unnamed : (fault : Fault) → IsUnnamed text index fault → answer ≡ code_of fault → name_new ≡ name_old
      → TellsPolicyFault (λ target. ⊤) text fault message_old message_new
      → AnswersNames text index name_old name_new answer message_old message_new
