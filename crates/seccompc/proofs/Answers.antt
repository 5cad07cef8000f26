-- The answers of engines, from what their steps answer.
use Rattle.std.proofs.Common.{◌≡◌, ℕ, List, Option, IfErr, Result, Ok, Err, subst}
use Rattle.std.specs.Prelude.{⊤, OnOk}
use Rattle.std.specs.Io.KnownBytes.{Appends}
use Rattle.std.specs.declared.io.Error.{Error as IoError}
use Rattle.seccompiler.specs.Reads.{Reads}
use Rattle.seccompc.specs.Answers.{Answers, AnswersOnRecords}
use Rattle.seccompc.specs.Errors.{IsWriteError, IsRecordsError}
use Rattle.seccompc.specs.Records.{AnswersRecords}
use Rattle.seccompc.specs.declared.error.ToolError.{ToolError}
use Rattle.seccompc.specs.declared.error.ToolError.TheVariants as tool
use Rattle.seccompc.proofs.Records.{retold}

-- ---- one text

module _ (IsText : List ℕ → Type 0) (IsRefused : ToolError → Type 0) where
  -- A refusal, which is no failed write, is answered as it is.
  pub refused_at_once : ((e : IoError) → IsRefused (tool.Write e) → ⊥) → (e : ToolError) (old new : Option (List ℕ)) → IsRefused e
      → Answers IsText IsRefused (Err e) old new
  refused_at_once none (tool.Write e) old new refused = absurd (none e refused)
  refused_at_once none _ old new refused = refused

  -- What sending the text answers.
  pub sent_at_once : (text sent : List ℕ) (r : Result ⊤ ToolError) (old new : Option (List ℕ)) → IsText text → sent ≡ text
      → OnOk r (Appends old new sent) → IfErr r IsWriteError → Answers IsText IsRefused r old new
  sent_at_once text sent (Ok done) old new is same appends cause = (text, is, subst (Appends old new) same appends)
  sent_at_once text sent (Err (tool.Write e)) old new is same appends cause = (text, is)
  sent_at_once text sent (Err _) old new is same appends cause = absurd cause

-- ---- records

module _ (IsReady : Type 0) (IsTextOf : List (List ℕ) → List ℕ → Type 0) (IsRefused : ToolError → Type 0) (records : Option (List ℕ)) where
  -- A refusal, which comes before the records are read, is answered as it is.
  pub refused_before : ((rest : ℕ) → IsRefused (tool.ShortRecord rest) → ⊥) → ((e : IoError) → IsRefused (tool.Read e) → ⊥)
      → ((e : IoError) → IsRefused (tool.Write e) → ⊥) → (e : ToolError) (old new : Option (List ℕ)) → IsRefused e
      → AnswersOnRecords IsReady IsTextOf IsRefused records (Err e) old new
  refused_before short unread unwritten (tool.ShortRecord rest) old new refused = absurd (short rest refused)
  refused_before short unread unwritten (tool.Read e) old new refused = absurd (unread e refused)
  refused_before short unread unwritten (tool.Write e) old new refused = absurd (unwritten e refused)
  refused_before short unread unwritten _ old new refused = refused

  -- What telling of the records answers, if all is ready.
  pub told_of_records : IsReady → IsRefused tool.OutOfMemory → (IsToldOf : List (List ℕ) → List ℕ → Type 0)
      → ((calls : List (List ℕ)) (text : List ℕ) → IsToldOf calls text → IsTextOf calls text)
      → (r : Result ⊤ ToolError) (old new : Option (List ℕ))
      → Reads records (λ bytes. AnswersRecords IsToldOf bytes r old new) → IfErr r IsRecordsError
      → AnswersOnRecords IsReady IsTextOf IsRefused records r old new
  told_of_records ready memory IsToldOf tells (Ok done) old new told cause =
      (told.0, told.1, retold IsToldOf IsTextOf tells told.0 0 old new told.2)
  told_of_records ready memory IsToldOf tells (Err (tool.ShortRecord rest)) old new told cause =
      (told.2.0, (told.0, told.1, retold IsToldOf IsTextOf tells told.0 rest old new told.2.1))
  told_of_records ready memory IsToldOf tells (Err (tool.Read e)) old new told cause = (cause, ready)
  told_of_records ready memory IsToldOf tells (Err (tool.Write e)) old new told cause = ready
  told_of_records ready memory IsToldOf tells (Err tool.OutOfMemory) old new told cause = memory
  told_of_records ready memory IsToldOf tells (Err _) old new told cause = absurd cause
