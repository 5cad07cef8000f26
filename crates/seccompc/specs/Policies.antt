-- What the engines that are given a policy answer and write, and which fault they tell.
use Rattle.std.specs.Prelude.{◌≡◌, ℕ, List, Option, Result, string_bytes, ⊤}
use Rattle.serde_json.specs.Data.{Data}
use Rattle.seccompiler.specs.declared.backend.TargetArch.{TargetArch}
use Rattle.seccompiler.specs.declared.bpf.sock_filter.{sock_filter}
use Rattle.seccompiler.specs.JsonAnswers.{HasPolicy}
use Rattle.seccompiler.specs.JsonFilters.{AreAll}
use Rattle.seccompiler.specs.JsonPrograms.{IsProgramOf}
use Rattle.seccompiler.specs.JsonShape.{Under, Lacks}
use Rattle.seccompiler.specs.Policy.{Filter}
use Rattle.seccompc.specs.Answers.{Answers, AnswersOnRecords}
use Rattle.seccompc.specs.Faults.{OfPolicy, IsPolicyFault, IsRefusedPolicy}
use Rattle.seccompc.specs.declared.error.ToolError.{ToolError}
use Rattle.seccompc.specs.declared.error.ToolError.TheVariants.{Library, NoFilter, OutOfMemory}
use Rattle.seccompc.specs.Lines.{Traced}
use Rattle.seccompc.specs.Listing.{Listed}

-- The value has a program.
abbrev pub HasSomeProgram : TargetArch → Data → Type 0
HasSomeProgram target value = (program : List sock_filter) × IsProgramOf target value program

-- Nothing is at fault: the text names an architecture, and the policy's text is of a value, an object each of whose
-- values has a program. P holds of both.
abbrev pub IsFaultless : List ℕ → Option (List ℕ) → (TargetArch → Data → Type 0) → Type 0
IsFaultless arch known P = OfPolicy arch known (λ target d. AreAll (HasSomeProgram target) d × P target d)

-- Nothing is at fault, and the value has this name, with a filter of whose policy P holds.
abbrev pub OfFilter : List ℕ → Option (List ℕ) → List ℕ → (Filter → Type 0) → Type 0
OfFilter arch known name P =
    IsFaultless arch known (λ target d. Under d name (λ value. (policy : Filter) × HasPolicy target value policy × P policy))

-- Nothing is at fault, and the text is the listing of all programs.
abbrev pub IsListing : List ℕ → Option (List ℕ) → List ℕ → Type 0
IsListing arch known text = IsFaultless arch known (λ target d. Listed target d text)

-- The answer of a listing. The first fault is reported: of the architecture's name and of the policy's text; and then
-- that writing fails. It is Ok only if nothing is at fault, and the listing is written. Lack of memory may come in
-- place of all.
abbrev pub AnswersList : List ℕ → Option (List ℕ) → Result ⊤ ToolError → (old new : Option (List ℕ)) → Type 0
AnswersList arch known = Answers (IsListing arch known) (IsRefusedPolicy arch known)

-- Why the records are not read: the first fault of the architecture's name and of the policy's text; then that no filter
-- has the name. Lack of memory may come in place of both.
abbrev pub IsRefusedRun : List ℕ → Option (List ℕ) → List ℕ → ToolError → Type 0
IsRefusedRun arch known name (Library e) = IsPolicyFault arch known e
IsRefusedRun arch known name (NoFilter text) = (string_bytes text ≡ name) × IsFaultless arch known (λ target d. Lacks d name)
IsRefusedRun arch known name OutOfMemory = ⊤
IsRefusedRun arch known name e = ⊥

-- The filter's lines on records can be reported: nothing is at fault, and there is such a filter.
abbrev pub IsRunnable : List ℕ → Option (List ℕ) → List ℕ → Type 0
IsRunnable arch known name = OfFilter arch known name (λ policy. ⊤)

-- Nothing is at fault, and the text is the filter's lines on records.
abbrev pub IsRun : List ℕ → Option (List ℕ) → List ℕ → (records : List (List ℕ)) → List ℕ → Type 0
IsRun arch known name records text = OfFilter arch known name (λ policy. Traced policy records text)

-- The answer of a run of the filter of this name on records: that, or, if there is such a filter, what telling its
-- lines on the records answers.
abbrev pub AnswersRun : List ℕ → Option (List ℕ) → List ℕ → (records : Option (List ℕ)) → Result ⊤ ToolError → (old new : Option (List ℕ))
    → Type 0
AnswersRun arch known name = AnswersOnRecords (IsRunnable arch known name) (IsRun arch known name) (IsRefusedRun arch known name)
