-- With which status a command ends, and what is done outside until then.
use Rattle.std.specs.Borrow.{Bor}
use Rattle.std.specs.Prelude.{[], ◌++◌, ◌<◌, ◌∷◌, ◌≡◌, ◌⊎◌, Bool, Contains, List, None, Option, Some, false, map, max, true, ℕ}
use Rattle.seccomptool.specs.Words.{Answer, AnswerError, Command, Different, Failure}
use Rattle.seccomptool.specs.Words.{Layer, Made, Named, Overwrites, Same, Terminal, Undecided, Verdict}
use Rattle.seccomptool.specs.Words.{text_of}
use Rattle.seccomptool.specs.Commands.{Answers}
use Rattle.seccomptool.specs.Failures.{Fails}
use Rattle.seccomptool.specs.Files.{IsAsked, Paths, files_of, guarded, lists, output_of, subjects_of, whole, writes_bytes}
use Rattle.seccomptool.specs.Learn.{TraceReading}
use Rattle.seccomptool.specs.Outside.{Event, compared, failed, got_of, named_of, on_terminal, out_of_memory, told, writes, wrote}

-- The files that are read at once: one of a check; or all of another command, in their order.
abbrev pub AreFilesOf : (subjects : Option (List (Bor (List ℕ)))) → Command → List Named → Type 0
AreFilesOf (Some subjects) command files = (path : Bor (List ℕ)) × (files ≡ whole path ∷ [])
AreFilesOf None command files = files ≡ files_of command

abbrev pub AreOf : Command → List Named → Type 0
AreOf command files = AreFilesOf (subjects_of command) command files

-- That none of these is the file that would be written; and, if bytes would be, that standard output is no terminal.
abbrev pub apart_of : Option (List ℕ) → (of_bytes : Bool) → List Named → List Event
apart_of (Some output) of_bytes files = map (λ (file : Named). compared file.path.now output false) files
apart_of None true files = on_terminal false ∷ []
apart_of None false files = []

-- All that is done before something is made: none of the files is the one that is written, and each is read.
pub record AreRead (command : Command) (files : List Named) (inputs : List Layer) (events : List Event) : Type 0 where
  pub named : map named_of inputs ≡ files
  pub are : events ≡ apart_of (output_of command) (writes_bytes command) (guarded command files) ++ map got_of inputs

-- What the command answers for exactly what is read is written, at once.
pub record IsCarriedOut (reads : TraceReading) (command : Command) (files : List Named) (events : List Event) (made : Made) : Type 0 where
  pub inputs : List Layer
  pub before : List Event
  pub are_read : AreRead command files inputs before
  pub answers : Answers reads command inputs made
  pub are : events ≡ before ++ wrote (output_of command) made.text.items ∷ []

-- Memory ran out; or the file of the failure, or standard output, could not be read or written for this cause.
abbrev pub IsOfOutside : List Event → Failure → Type 0
IsOfOutside events f = (f.cause ≡ out_of_memory) ⊎ Contains events (failed (text_of f.input) f.cause)

-- Nothing may be written there: a file that is read is the one that would be written; or bytes would be written to a terminal.
pub data IsRefused (output : Option (List ℕ)) (of_bytes : Bool) (files : List Named) (events : List Event) (f : Failure) : Type 0 where
  overwrites : (file : Named) (written : List ℕ) → output ≡ Some written → Contains files file
      → Contains events (compared file.path.now written true) → f.cause ≡ Overwrites → IsRefused output of_bytes files events f
  terminal : output ≡ None → of_bytes ≡ true → Contains events (on_terminal true) → f.cause ≡ Terminal
      → IsRefused output of_bytes files events f

-- The failure has a cause: memory, or what is outside; the output; or what keeps the command from an answer for exactly what is read.
pub data IsKept (reads : TraceReading) (command : Command) (files : List Named) (events : List Event) (f : Failure) : Type 0 where
  of_outside : IsOfOutside events f → IsKept reads command files events f
  refused : IsRefused (output_of command) (writes_bytes command) (guarded command files) events f → IsKept reads command files events f
  unanswered : (inputs : List Layer) → AreRead command files inputs events → (error : AnswerError) → Fails reads command inputs error
      → f.cause ≡ Answer error → IsKept reads command files events f

abbrev pub verdict_status : Verdict → ℕ
verdict_status Same = 0
verdict_status Different = 1
verdict_status Undecided = 3

-- The status of what is made: that of trouble, if records end inside of one, and else the verdict's.
abbrev pub made_status : (is_cut : Bool) → Verdict → ℕ
made_status true v = 2
made_status false v = verdict_status v

-- The status of what is found, and what is made is written; or a failure with a cause is told, nothing is written, and the status is that
-- of trouble.
pub data Ends (reads : TraceReading) (command : Command) (files : List Named) (events : List Event) (status : ℕ) : Type 0 where
  carried_out : (made : Made) → IsCarriedOut reads command files events made → status ≡ made_status made.is_cut made.verdict
      → Ends reads command files events status
  kept : (f : Failure) (before : List Event) → IsKept reads command files before f → writes before ≡ false
      → events ≡ before ++ told f ∷ [] → status ≡ 2 → Ends reads command files events status

-- The command ends so on one of these files after the other, with the greatest status.
pub data EndsOnEach (reads : TraceReading) (command : Command) : List (Bor (List ℕ)) → List Event → ℕ → Type 0 where
  on_none : EndsOnEach reads command [] [] 0
  on_more : {front : List (Bor (List ℕ))} {before own : List Event} {less status : ℕ} → EndsOnEach reads command front before less
      → (one : Bor (List ℕ)) → Ends reads command (whole one ∷ []) own status
      → EndsOnEach reads command (front ++ one ∷ []) (before ++ own) (max status less)

-- A text is written to standard output, of which no more is said; or it isn't, and why is told.
pub data IsSaid (events : List Event) (status : ℕ) : Type 0 where
  said : (text : List ℕ) → events ≡ wrote None text ∷ [] → status ≡ 0 → IsSaid events status
  unsaid : (f : Failure) (before : List Event) → IsOfOutside before f → events ≡ before ++ told f ∷ [] → status ≡ 2 → IsSaid events status

-- As a list: its head is written, what is found in each file, and the end of the list.
pub data EndsInList (reads : TraceReading) (command : Command) (subjects : List (Bor (List ℕ))) : List Event → ℕ → Type 0 where
  listed : {head each end : List Event} {status ended : ℕ} → IsSaid head 0 → EndsOnEach reads command subjects each status
      → IsSaid end ended → EndsInList reads command subjects (head ++ each ++ end) (max status ended)
  unlisted : {head : List Event} {status : ℕ} → IsSaid head status → 0 < status → EndsInList reads command subjects head status

-- A command ends: a check on one file after the other, another on all of its files.
abbrev pub EndsOn : TraceReading → (in_list : Bool) → (subjects : Option (List (Bor (List ℕ)))) → Command → List Event → (status : ℕ)
    → Type 0
EndsOn reads true (Some subjects) command events status = EndsInList reads command subjects events status
EndsOn reads false (Some subjects) command events status = EndsOnEach reads command subjects events status
EndsOn reads in_list None command events status = Ends reads command (files_of command) events status

abbrev pub EndsWith : TraceReading → Command → List Event → (status : ℕ) → Type 0
EndsWith reads command events status = EndsOn reads (lists command) (subjects_of command) command events status

-- The command that the words ask for is carried out.
abbrev pub IsAnswered : TraceReading → Paths → List Event → (status : ℕ) → Type 0
IsAnswered reads paths events status = (command : Command) × IsAsked paths command × EndsWith reads command events status
