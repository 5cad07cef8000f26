-- Why a command isn't carried out on what is read for it.
use Rattle.std.specs.Prelude.{[], ◌∷◌, ◌≡◌, Bool, List, false, true, ℕ}
use Rattle.seccomptool.specs.Words.{AnswerError, Call, Command, IsUncalled, IsUnknownCall, Layer, OutOfMemory}
use Rattle.seccomptool.specs.Words.{TargetArch}
use Rattle.seccomptool.specs.declared.command.Command.TheVariants as command
use Rattle.seccomptool.specs.Causes.{IsUncompared, IsUncompiled, IsUnexplained, IsUnshown, IsUnstacked}
use Rattle.seccomptool.specs.Commands.{IsAskedAbout, IsParted}
use Rattle.seccomptool.specs.Files.{calls_file, start_file}
use Rattle.seccomptool.specs.Learn.{IsUnlearned, TraceReading}

-- The text is no call of the architecture; or no call that has a name, of those that are asked about.
abbrev pub IsUncalledOn : (recorded : Bool) → (each : Bool) → TargetArch → Call → AnswerError → Type 0
IsUncalledOn true each arch call e = IsUncalled arch call.name.now e
IsUncalledOn false each arch call e = IsUnknownCall (IsAskedAbout each arch) call.name.now e

-- A command fails on what is read for it for this. `check` and the list of codes fail only if memory runs out, since a fault of what is
-- given is what `check` finds.
abbrev pub Fails : (reads : TraceReading) → Command → List Layer → AnswerError → Type 0
Fails reads (command.Check asked) inputs e = e ≡ OutOfMemory
Fails reads (command.Codes json) inputs e = e ≡ OutOfMemory
Fails reads (command.Compile asked) (one ∷ []) e = IsUncompiled asked one.text.items e
Fails reads (command.Show asked) (one ∷ []) e = IsUnshown asked one.text.items e
Fails reads (command.Explain asked) inputs e =
    (layers : List Layer) × (bytes : List ℕ) × IsParted (calls_file asked.calls) inputs layers bytes × IsUnexplained asked layers e
Fails reads (command.Diff asked) (old ∷ new ∷ []) e = IsUncompared asked old.text.items new.text.items e
Fails reads (command.Stack asked) layers e = IsUnstacked asked layers e
Fails reads (command.Learn asked) inputs e =
    (traced : List Layer) × (bytes : List ℕ) × IsParted (start_file asked.start) inputs traced bytes
    × IsUnlearned reads asked traced bytes e
Fails reads (command.Call asked) inputs e = IsUncalledOn asked.recorded asked.each_arch asked.arch asked.call e
Fails reads other inputs e = ⊥
