-- Which files a command reads, in which order, and which one it writes; and which arguments name them.
use Rattle.std.specs.Borrow.{Bor}
use Rattle.std.specs.List.{AllZip}
use Rattle.std.specs.Prelude.{[], ⊤, ◌++◌, ◌==◌, ◌||◌, ◌∷◌, ◌≡◌, ◌≢◌, All, Bool, IfSome, List, None, Option, Some, codes, false}
use Rattle.std.specs.Prelude.{if◌then◌else◌, is_none, length, map, option_map, take, true, unwrap_or, ℕ}
use Rattle.std.specs.Str.{bytes_eq}
use Rattle.seccomptool.specs.Words.{Abi, Calls, Command, Into, Log}
use Rattle.seccomptool.specs.Words.{Named, One, Otherwise, Records, Start, TargetArch}
use Rattle.seccomptool.specs.Words.{first_value, matched_of, one_text, raw_values}
use Rattle.seccomptool.specs.Words.{text_of}
use Rattle.clap.specs.declared.parser.matches.Found.{Found}
use Rattle.seccompiler.specs.declared.backend.TargetArch.TheVariants.{x86_64, aarch64, riscv64}
use Rattle.seccomp_profiles.specs.declared.types.Abi.TheVariants.{I386, Native, X32}
use Rattle.seccomp_views.specs.declared.check.format.CheckFormat.{CheckFormat}
use Rattle.seccomp_views.specs.declared.check.format.CheckFormat.TheVariants.{Json}
use Rattle.seccomp_views.specs.declared.program.ProgramFormat.{ProgramFormat}
use Rattle.seccomp_views.specs.declared.program.ProgramFormat.TheVariants.{Raw}
use Rattle.seccomptool.specs.declared.command.Command.TheVariants.{Call, Check, Codes, Compile, Diff, Explain, Learn, Show, Stack}

-- ---- what is read and written

-- A file of which no filter is asked for.
abbrev pub whole : Bor (List ℕ) → Named
whole path = record { path = path; filter = None }

-- The file of the calls that are explained, if they are in one.
abbrev pub calls_file : Calls → Option (Bor (List ℕ))
calls_file (One call) = None
calls_file (Records path) = Some path
calls_file (Log path) = Some path

-- The policy that calls are added to, if there is one.
abbrev pub start_file : Start → Option (Bor (List ℕ))
start_file (Otherwise action) = None
start_file (Into path) = Some path

-- The file that is read behind the others, if there is one.
abbrev pub files_behind : Option (Bor (List ℕ)) → List Named
files_behind None = []
files_behind (Some path) = whole path ∷ []

-- The files that are read, in their order.
abbrev pub files_of : Command → List Named
files_of (Compile asked) = asked.subject ∷ []
files_of (Show asked) = asked.subject ∷ []
files_of (Explain asked) = asked.before.items ++ asked.subject ∷ files_behind (calls_file asked.calls)
files_of (Diff asked) = asked.old ∷ asked.new ∷ []
files_of (Stack asked) = asked.layers.items
files_of (Learn asked) = map whole asked.traces.items ++ files_behind (start_file asked.start)
files_of other = []

-- The files that are checked, one after the other, if it is a check.
abbrev pub subjects_of : Command → Option (List (Bor (List ℕ)))
subjects_of (Check asked) = Some asked.subjects.items
subjects_of other = None

-- The file that is written, if it isn't standard output.
abbrev pub output_of : Command → Option (List ℕ)
output_of (Compile asked) = text_of asked.output
output_of (Stack asked) = text_of asked.output
output_of (Learn asked) = text_of asked.output
output_of (Call asked) = text_of asked.output
output_of other = None

-- Of the files that are read those over which nothing is written: all but the policy that calls are added to.
abbrev pub guarded : Command → List Named → List Named
guarded (Learn asked) files = take (length asked.traces.items) files
guarded other files = files

-- The bytes of a program are asked for.
abbrev pub is_raw : ProgramFormat → Bool
is_raw Raw = true
is_raw other = false

-- The bytes of a program or of a record are asked for.
abbrev pub writes_bytes : Command → Bool
writes_bytes (Compile asked) = is_raw asked.format
writes_bytes (Stack asked) = is_raw asked.format
writes_bytes (Call asked) = asked.recorded
writes_bytes other = false

abbrev pub is_list : CheckFormat → Bool
is_list Json = true
is_list other = false

-- A list is asked for, of what is found in each file.
abbrev pub lists : Command → Bool
lists (Check asked) = is_list asked.format
lists other = false

-- ---- the arguments, as clap finds them

-- Whether an option that takes nothing is given.
pub record IsFlag (found : Found) (option : List ℕ) (given : Bool) : Type 0 where
  pub none : one_text found option ≡ None → given ≡ false
  pub value : one_text found option ≡ Some (codes "true") → given ≡ true
  pub other : one_text found option ≡ Some (codes "false") → given ≡ false

-- The architecture of a name, x86_64 if there is none. arm64 is aarch64's other name. clap lets no name pass that isn't one.
abbrev pub arch_named : Option (List ℕ) → TargetArch
arch_named None = x86_64
arch_named (Some name) =
    if bytes_eq name (codes "aarch64") || bytes_eq name (codes "arm64") then aarch64
    else if bytes_eq name (codes "riscv64") then riscv64 else x86_64

abbrev pub arch_in : Found → TargetArch
arch_in found = arch_named (first_value found (codes "arch"))

-- Whose calls are asked about: those of i386, of x32, or of the architecture itself.
abbrev pub abi_named : Option (List ℕ) → TargetArch → Abi
abi_named None arch = Native arch
abi_named (Some name) arch =
    if bytes_eq name (codes "x86") then I386 else if bytes_eq name (codes "x32") then X32 else Native arch

abbrev pub abi_in : Found → Abi
abi_in found = abi_named (first_value found (codes "arch")) (arch_in found)

-- The path of the file that is written; none of standard output.
abbrev pub output_named : Option (List ℕ) → Option (List ℕ)
output_named None = None
output_named (Some path) =
    if bytes_eq path (codes "-") || bytes_eq path (codes "/dev/stdout") || bytes_eq path (codes "/dev/fd/1") then None else Some path

abbrev pub output_in : Found → Option (List ℕ)
output_in found = output_named (first_value found (codes "output"))

-- A path of standard input if none is given.
abbrev pub path_given : Found → List ℕ → List ℕ
path_given found name = unwrap_or (first_value found name) (codes "-")

-- All values that are given of an option or an argument.
abbrev pub all_values : Found → List ℕ → List (List ℕ)
all_values found name = unwrap_or (option_map raw_values (matched_of found name)) []

-- The name of a filter that is given, if it isn't empty.
abbrev pub name_given : List ℕ → Option (List ℕ)
name_given name = if length name == 0 then None else Some name

-- The bytes have no colon.
abbrev pub HasNoColon : List ℕ → Type 0
HasNoColon bytes = All (λ byte. byte ≢ 0x3a) bytes

-- At which paths something is, if that is known.
abbrev pub Paths : Type 0
Paths = Option (List ℕ → Bool)

-- A text is a path, which stands in front of its last colon, and the name of a filter behind that; without a colon it is a path alone,
-- and so it is if something is there.
pub data IsPathAndName (paths : Paths) (text path : List ℕ) (name : Option (List ℕ)) : Type 0 where
  alone : HasNoColon text → path ≡ text → name ≡ None → IsPathAndName paths text path name
  whole_path : IfSome paths (λ there. there text ≡ true) → path ≡ text → name ≡ None → IsPathAndName paths text path name
  both : IfSome paths (λ there. there text ≡ false) → (behind : List ℕ) → text ≡ path ++ 0x3a ∷ behind → HasNoColon behind
      → name ≡ name_given behind → IsPathAndName paths text path name

abbrev pub IsNamedBy : Paths → (text : List ℕ) → Named → Type 0
IsNamedBy paths text named = IsPathAndName paths text named.path.now (text_of named.filter)

-- What --filter gives, or else what stands behind the path.
abbrev pub or_else : (given behind : Option (List ℕ)) → Option (List ℕ)
or_else (Some own) behind = Some own
or_else None behind = behind

-- The one subject, and its filter: that of --filter, or else the one behind its path.
pub record IsSubject (paths : Paths) (found : Found) (named : Named) : Type 0 where
  pub behind : Option (List ℕ)
  pub parted : IsPathAndName paths (path_given found (codes "SUBJECT")) named.path.now behind
  pub filter : text_of named.filter ≡ or_else (first_value found (codes "filter")) behind

-- Where the calls are that are explained: a call that is given is the only one.
abbrev pub AreCalls : (call log : Option (List ℕ)) → (records : List ℕ) → Calls → Type 0
AreCalls (Some call) log records (One given) = given.name.now ≡ call
AreCalls None (Some path) records (Log given) = given.now ≡ path
AreCalls None None records (Records given) = given.now ≡ records
AreCalls call log records calls = ⊥

-- A command has this name. `--list` is an option of `check`.
abbrev pub IsNamed : Found → (name : List ℕ) → Command → Type 0
IsNamed found name (Codes json) = (name ≡ codes "check") × IsFlag found (codes "list") true
IsNamed found name (Check asked) = (name ≡ codes "check") × IsFlag found (codes "list") false
IsNamed found name (Compile asked) = name ≡ codes "compile"
IsNamed found name (Show asked) = name ≡ codes "show"
IsNamed found name (Explain asked) = name ≡ codes "explain"
IsNamed found name (Diff asked) = name ≡ codes "diff"
IsNamed found name (Stack asked) = name ≡ codes "stack"
IsNamed found name (Learn asked) = name ≡ codes "learn"
IsNamed found name (Call asked) = name ≡ codes "call"

-- What each command is asked for: the files that are named for it, as what they are named for. What else is asked for is tested.
abbrev pub IsAskedBy : Paths → Found → Command → Type 0
IsAskedBy paths found (Codes json) = ⊤
IsAskedBy paths found (Check asked) =
    (asked.arch ≡ arch_in found) × (map (λ (path : Bor (List ℕ)). path.now) asked.subjects.items ≡ all_values found (codes "SUBJECT"))
IsAskedBy paths found (Compile asked) =
    (asked.arch ≡ arch_in found) × IsSubject paths found asked.subject × (text_of asked.output ≡ output_in found)
IsAskedBy paths found (Show asked) = (asked.arch ≡ arch_in found) × IsSubject paths found asked.subject
IsAskedBy paths found (Explain asked) =
    (asked.abi ≡ abi_in found) × AllZip (IsNamedBy paths) (all_values found (codes "after")) asked.before.items
    × IsSubject paths found asked.subject
    × AreCalls (first_value found (codes "CALL")) (first_value found (codes "log")) (path_given found (codes "records")) asked.calls
IsAskedBy paths found (Diff asked) =
    (asked.terms.target ≡ arch_in found) × IsNamedBy paths (path_given found (codes "OLD")) asked.old
    × IsNamedBy paths (path_given found (codes "NEW")) asked.new
IsAskedBy paths found (Stack asked) =
    (asked.arch ≡ arch_in found) × AllZip (IsNamedBy paths) (all_values found (codes "SUBJECT")) asked.layers.items
    × (text_of asked.output ≡ output_in found)
IsAskedBy paths found (Learn asked) =
    (asked.arch ≡ arch_in found) × (map (λ (path : Bor (List ℕ)). path.now) asked.traces.items ≡ all_values found (codes "TRACE"))
    × (text_of (start_file asked.start) ≡ first_value found (codes "into")) × (text_of asked.name ≡ first_value found (codes "name"))
    × (text_of asked.output ≡ output_in found)
IsAskedBy paths found (Call asked) =
    (asked.arch ≡ arch_in found) × (asked.each_arch ≡ is_none (first_value found (codes "arch")))
    × (asked.call.name.now ≡ path_given found (codes "CALL")) × (text_of asked.output ≡ output_in found)

abbrev pub IsFor : Paths → Found → (name : List ℕ) → Option Command → Type 0
IsFor paths found name None = ⊤
IsFor paths found name (Some command) = IsNamed found name command × IsAskedBy paths found command

-- The words ask for this command, as clap finds them.
abbrev pub IsAsked : Paths → Command → Type 0
IsAsked paths command = (found : Found) × (name : List ℕ) × IsFor paths found name (Some command)
