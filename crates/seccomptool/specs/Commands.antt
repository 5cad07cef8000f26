-- What it means that a command is carried out on the texts that it is given.
use Rattle.std.specs.Borrow.{Bor}
use Rattle.std.specs.List.{AllZip}
use Rattle.std.specs.Prelude.{[], ⊤, ◌%◌, ◌++◌, ◌/◌, ◌<◌, ◌↔◌, ◌∷◌, ◌≡◌, ◌≢◌, Bool, IsTrue, List, None, Option, Some, Vec, false, length}
use Rattle.std.specs.Prelude.{true, ℕ}
use Rattle.std.specs.declared.alloc.Global.{Global}
use Rattle.seccomptool.specs.Words.{Abi, AnswerError, AreKnownCalls, ArePrograms, IsRecordOn, machine_of}
use Rattle.seccomptool.specs.Words.{Call, Calls, Command, Compile, Container, Different, Explain, Explains, Filter, IsCheckOf}
use Rattle.seccomptool.specs.Words.{IsCompiledIn, IsCompiledProfile, IsDiff, IsFilterOf, IsLayer, IsProfileCheckOf, IsProgramOf, IsRecordOf}
use Rattle.seccomptool.specs.Words.{IsRefusedProfile, IsRefusedProgram, IsSideOf, IsStackExplained, IsTakenAs, IsWrittenAs, Layer}
use Rattle.seccomptool.specs.Words.{Layout, Learn, Log, Made, One, OutOfMemory, Records, Same, Show, Side, Stack}
use Rattle.seccomptool.specs.Words.{Subject, TargetArch, Verdict, sock_filter, text_of, verdict_in, verdict_where}
use Rattle.std.specs.Simd.{first_chunks}
use Rattle.seccompiler.specs.JsonAnswers.{OfValue}
use Rattle.seccomp_compare.specs.Machine.{IsChecked}
use Rattle.seccomp_profiles.specs.declared.compiled.CompiledProfile.{CompiledProfile}
use Rattle.seccomp_stack.specs.Stack.{IsStack}
use Rattle.seccomp_answers.specs.declared.check.CheckedPolicy.{CheckedPolicy}
use Rattle.seccomp_answers.specs.declared.check.CheckedProfile.{CheckedProfile}
use Rattle.seccomp_answers.specs.declared.programs.NamedProgram.{NamedProgram}
use Rattle.seccomp_answers.specs.declared.diff.Diff.{Diff}
use Rattle.seccomp_answers.specs.declared.explain.Explanation.{Explanation}
use Rattle.seccomp_answers.specs.declared.kind.Subject.TheVariants as subject
use Rattle.seccomp_answers.specs.declared.calls.KnownCall.{KnownCall}
use Rattle.seccomptool.specs.declared.command.Check.{Check}
use Rattle.seccomptool.specs.declared.command.Command.TheVariants as command
use Rattle.seccomptool.specs.declared.command.Diff.{Diff as AskedDiff}
use Rattle.seccomptool.specs.declared.command.Lookup.{Lookup}
use Rattle.seccomp_answers.specs.Check.{IsRefusal}
use Rattle.seccomptool.specs.Files.{calls_file, start_file}
use Rattle.seccomptool.specs.Learn.{IsLesson, TraceReading}

-- ---- what each command answers

-- The program is compiled for the filter that is asked for, or the only one, of the policy's text.
abbrev pub IsFilterCompiled : TargetArch → Layout → (asked : Option (List ℕ)) → (text : List ℕ) → (program : List sock_filter) → Type 0
IsFilterCompiled target layout asked text program =
    (filter : Filter) × IsFilterOf target asked text filter × IsCompiledIn layout filter program

-- The program of what is given: compiled for a filter, or for a profile, or given itself.
abbrev pub IsCompiledAs : Compile → Subject → (given : List ℕ) → (program : List sock_filter) → Type 0
IsCompiledAs asked subject.Policy text program = IsFilterCompiled asked.arch asked.layout (text_of asked.subject.filter) text program
IsCompiledAs asked (subject.Profile container) text program =
    (compiled : CompiledProfile) × IsCompiledProfile asked.arch container.now asked.strict text compiled
    × (compiled.program.items ≡ program)
IsCompiledAs asked subject.Program bytes program = IsProgramOf bytes program × IsChecked program

-- It is what is written.
abbrev pub IsWrittenOf : Compile → Subject → (given written : List ℕ) → Type 0
IsWrittenOf asked kind given written =
    (program : List sock_filter) × IsCompiledAs asked kind given program × IsWrittenAs asked.format program written

abbrev pub IsCompiled : Compile → (given written : List ℕ) → Type 0
IsCompiled asked given written = (kind : Subject) × IsTakenAs asked.reading given kind × IsWrittenOf asked kind given written

-- The program of a profile.
abbrev pub IsProfileCompiled : TargetArch → Container → (strict : Bool) → (text : List ℕ) → Type 0
IsProfileCompiled arch container strict text = (compiled : CompiledProfile) × IsCompiledProfile arch container strict text compiled

-- The bytes are those of a program that may be run.
abbrev pub IsCheckedProgram : (bytes : List ℕ) → Type 0
IsCheckedProgram bytes = (program : List sock_filter) × IsProgramOf bytes program × IsChecked program

-- The programs of what is given, all those of a policy.
abbrev pub IsShownAs : TargetArch → Subject → Layout → (given : List ℕ) → Type 0
IsShownAs arch subject.Policy layout text = (all : List NamedProgram) × OfValue text (λ d. ArePrograms layout arch d all)
IsShownAs arch (subject.Profile container) layout text = IsProfileCompiled arch container.now false text
IsShownAs arch subject.Program layout bytes = IsCheckedProgram bytes

-- Of numbers nothing is promised.
abbrev pub IsShownUnless : (measured : Bool) → TargetArch → Subject → Layout → (given : List ℕ) → Type 0
IsShownUnless false arch kind layout given = IsShownAs arch kind layout given
IsShownUnless true arch kind layout given = ⊤

abbrev pub IsShown : Show → (given : List ℕ) → Type 0
IsShown asked given =
    (kind : Subject) × IsTakenAs asked.reading given kind × IsShownUnless asked.measured asked.arch kind asked.layout given

-- What is given is accepted, with its warnings, and whether they count.
abbrev pub IsAccepted : Check → Subject → (given : List ℕ) → Verdict → Type 0
IsAccepted asked subject.Policy text v =
    (checked : CheckedPolicy) × IsCheckOf asked.arch asked.allowed.items text checked × (v ≡ verdict_where asked.denied checked.count)
IsAccepted asked (subject.Profile container) text v =
    (checked : CheckedProfile) × IsProfileCheckOf asked.arch container.now asked.allowed.items text checked
    × (v ≡ verdict_where asked.denied (length checked.warnings.items))
IsAccepted asked subject.Program bytes v = IsCheckedProgram bytes × (v ≡ Same)

-- What is given is rejected for this, or memory ran out.
abbrev pub IsRejectedFor : TargetArch → Subject → (given : List ℕ) → AnswerError → Type 0
IsRejectedFor arch subject.Policy text e = IsRefusal arch text e
IsRejectedFor arch (subject.Profile container) text e = IsRefusedProfile arch container.now false text e
IsRejectedFor arch subject.Program bytes e = IsRefusedProgram bytes e

-- What is given is accepted; or it is rejected, and not for want of memory.
pub data IsJudged (asked : Check) (kind : Subject) (given : List ℕ) (v : Verdict) : Type 0 where
  accepted : IsAccepted asked kind given v → IsJudged asked kind given v
  rejected : (e : AnswerError) → IsRejectedFor asked.arch kind given e → e ≢ OutOfMemory → v ≡ Different → IsJudged asked kind given v

abbrev pub IsCheck : Check → (given : List ℕ) → Verdict → Type 0
IsCheck asked given v = (kind : Subject) × IsTakenAs asked.reading given kind × IsJudged asked kind given v

-- The whole records of these bytes.
abbrev pub records_in : List ℕ → List (List ℕ)
records_in bytes = first_chunks 64 (length bytes / 64) bytes

-- P holds of the records that are asked about: that of a call, those of these bytes, or those of calls that lines are about.
abbrev pub OnRecordsOf : Calls → Abi → (bytes : List ℕ) → (List (List ℕ) → Type 0) → Type 0
OnRecordsOf (One call) abi bytes P =
    (record_of : List ℕ) × IsRecordOn abi call.name.now call.arguments record_of × P (records_in record_of)
OnRecordsOf (Records path) abi bytes P = P (records_in bytes)
OnRecordsOf (Log path) abi bytes P = (records : List (List ℕ)) × P records

abbrev pub OnRecords : Explain → (bytes : List ℕ) → (List (List ℕ) → Type 0) → Type 0
OnRecords asked bytes P = OnRecordsOf asked.calls asked.abi bytes P

-- The architecture that is asked about, or each.
abbrev pub IsAskedAbout : (each : Bool) → (asked of : TargetArch) → Type 0
IsAskedAbout true asked of = ⊤
IsAskedAbout false asked of = of ≡ asked

-- What is written is the record of a call; or there are calls of its name or number, all those of the architectures that are
-- asked about.
abbrev pub IsCalledOn : (recorded : Bool) → (each : Bool) → TargetArch → Call → (written : List ℕ) → Type 0
IsCalledOn true each arch call written = IsRecordOf arch call.name.now call.arguments written
IsCalledOn false each arch call written =
    (calls : List KnownCall) × AreKnownCalls (IsAskedAbout each arch) call.name.now calls

abbrev pub IsCalled : Lookup → (written : List ℕ) → Type 0
IsCalled asked written = IsCalledOn asked.recorded asked.each_arch asked.arch asked.call written

-- On which calls the one decides otherwise than the other, and whether on any that counts.
pub record IsCompared (asked : AskedDiff) (old_given new_given : List ℕ) (v : Verdict) : Type 0 where
  pub old : Side
  pub new : Side
  pub of_old : IsSideOf asked.reading asked.old.filter old_given old
  pub of_new : IsSideOf asked.reading asked.new.filter new_given new
  pub found : Diff
  pub is : IsDiff asked.terms.target asked.terms.relation old new found
  pub verdict : v ≡ verdict_in asked.scope found

-- One program answers as the kernel makes it of those of all layers, and it is what is written.
pub record IsStacked (asked : Stack) (layers : List Layer) (written : List ℕ) : Type 0 where
  pub programs : List (Vec sock_filter Global)
  pub each : AllZip (IsLayer asked.arch asked.reading) layers programs
  pub program : List sock_filter
  pub stack : IsStack programs program
  pub is_written : IsWrittenAs asked.format program written

-- The one of what is given decides so on the records, and why; or, if there are several, all of them do together.
abbrev pub ExplainsIn : Explain → List Layer → (records : List (List ℕ)) → Explanation → Type 0
ExplainsIn asked (subject ∷ []) records e =
    Explains asked.abi asked.reading (text_of subject.filter) subject.text.items records e
ExplainsIn asked layers records e = IsStackExplained (machine_of asked.abi) asked.reading layers records e

abbrev pub IsExplainedIn : Explain → List Layer → (records : List (List ℕ)) → Type 0
IsExplainedIn asked layers records = (e : Explanation) × ExplainsIn asked layers records e

-- ---- a command

-- The bytes end inside a record, if they are records.
abbrev pub EndsInside : Calls → (bytes : List ℕ) → Type 0
EndsInside (Records path) bytes = 0 < length bytes % 64
EndsInside calls bytes = ⊥

-- This is made: the command finds nothing, and isn't given records that end inside of one.
abbrev pub IsPlain : Made → Type 0
IsPlain made = (made.verdict ≡ Same) × (made.is_cut ≡ false)

-- What is read is what stands in front, and behind it these bytes, if a file is named there.
abbrev pub IsParted : (behind : Option (Bor (List ℕ))) → (inputs front : List Layer) → (bytes : List ℕ) → Type 0
IsParted None inputs front bytes = (front ≡ inputs) × (bytes ≡ [])
IsParted (Some path) inputs front bytes = (last : Layer) × (inputs ≡ front ++ last ∷ []) × (bytes ≡ last.text.items)

-- What `explain` makes of the layers, and of the records or the log behind them, if it isn't asked about one call.
pub record IsExplained (asked : Explain) (inputs : List Layer) (made : Made) : Type 0 where
  pub layers : List Layer
  pub bytes : List ℕ
  pub parted : IsParted (calls_file asked.calls) inputs layers bytes
  pub decided : OnRecords asked bytes (IsExplainedIn asked layers)
  pub verdict : made.verdict ≡ Same
  pub cut : IsTrue made.is_cut ↔ EndsInside asked.calls bytes

-- What `learn` makes of the traces, and of the policy behind them, if calls are added to one.
pub record IsTaught (reads : TraceReading) (asked : Learn) (inputs : List Layer) (made : Made) : Type 0 where
  pub traced : List Layer
  pub bytes : List ℕ
  pub parted : IsParted (start_file asked.start) inputs traced bytes
  pub lesson : IsLesson reads asked traced bytes made.text.items
  pub plain : IsPlain made

-- This is made of what is read for a command: a value is found in it that is so, with this verdict and what is written.
abbrev pub Answers : (reads : TraceReading) → Command → List Layer → Made → Type 0
Answers reads (command.Check asked) (one ∷ []) made = IsCheck asked one.text.items made.verdict × (made.is_cut ≡ false)
Answers reads (command.Codes json) inputs made = IsPlain made
Answers reads (command.Compile asked) (one ∷ []) made = IsCompiled asked one.text.items made.text.items × IsPlain made
Answers reads (command.Show asked) (one ∷ []) made = IsShown asked one.text.items × IsPlain made
Answers reads (command.Explain asked) inputs made = IsExplained asked inputs made
Answers reads (command.Diff asked) (old ∷ new ∷ []) made =
    IsCompared asked old.text.items new.text.items made.verdict × (made.is_cut ≡ false)
Answers reads (command.Stack asked) layers made = IsStacked asked layers made.text.items × IsPlain made
Answers reads (command.Learn asked) inputs made = IsTaught reads asked inputs made
Answers reads (command.Call asked) inputs made = IsCalled asked made.text.items × IsPlain made
Answers reads other inputs made = ⊥
