-- What each command answers and writes.
use Rattle.std.specs.Prelude.{◌≡◌, ℕ, List, Option, Result, Ok, Err, ⊤}
use Rattle.std.specs.IoError.{error_kind}
use Rattle.std.specs.declared.io.Error.{Error as IoError}
use Rattle.std.specs.declared.io.ErrorKind.TheVariants as kind
use Rattle.seccompc.specs.Policies.{AnswersList, AnswersRun}
use Rattle.seccompc.specs.Probe.{AnswersProbe}
use Rattle.seccompc.specs.Errors.{IsReadFault}
use Rattle.seccompc.specs.declared.error.ToolError.{ToolError}
use Rattle.seccompc.specs.declared.error.ToolError.TheVariants.{Unopened, OutOfMemory}
use Rattle.seccompc.specs.declared.words.Command.{Command}
use Rattle.seccompc.specs.declared.words.Command.TheVariants.{Probe, List as Listing, Run}

-- The answer of a command, if FILE and standard input have these bytes. `probe` answers from its own words and
-- the records of the input, `list` from the policy of the input, and `run` from FILE's policy, the filter of
-- this name and the records of the input.
abbrev pub AnswersCommand : Command → (file input : Option (List ℕ)) → Result ⊤ ToolError → (old new : Option (List ℕ)) → Type 0
AnswersCommand (Probe arch nr index value) file input answer old new = AnswersProbe arch.now nr index value input answer old new
AnswersCommand (Listing arch) file input answer old new = AnswersList arch.now input answer old new
AnswersCommand (Run arch named name) file input answer old new = AnswersRun arch.now file name.now input answer old new

-- The answer if opening FILE fails so: that it can't be opened, or, if memory runs out, that.
abbrev pub IsUnopened : IoError → Result ⊤ ToolError → Type 0
IsUnopened e (Err Unopened) = IsReadFault e
IsUnopened e (Err OutOfMemory) = error_kind e ≡ kind.OutOfMemory
IsUnopened e answer = ⊥

-- The command is carried out without a fault, for this standard input and some contents of FILE, and what is written grows by
-- what it answers.
pub record IsPerformed (command : Command) (input old new : Option (List ℕ)) : Type 0 where
  pub file : Option (List ℕ)
  pub answers : AnswersCommand command file input (Ok tt) old new
