-- The program that a caller asks for, and why it is not given.
use Rattle.std.specs.Prelude.{◌≡◌, ℕ, ℤ, pos, ◌<◌, ◌≤◌, List, [], ◌++◌, drop, length, ⊤}
use Rattle.seccomp_tree.specs.Layouts.{IsCompiledIn, IsRefusalIn}
use Rattle.seccompiler.specs.Policy.{Filter}
use Rattle.seccomp_tree.specs.declared.error.FilterError.{FilterError}
use Rattle.seccomp_tree.specs.declared.error.FilterError.TheVariants.{FilterTooLarge, TreeTooLarge}
use Rattle.seccompiler.specs.declared.backend.TargetArch.{TargetArch}
use Rattle.seccompiler.specs.declared.bpf.sock_filter.{sock_filter}
use Rattle.seccomp_tree.specs.declared.layout.Layout.{Layout}
use Rattle.seccompiler_c.specs.Arguments.{IsArchitecture, IsNoArchitecture, OfArchitecture, IsNoLayout, OfLayout}
use Rattle.seccompiler_c.specs.Codes.{code_of}
use Rattle.seccompiler_c.specs.Messages.{HoldsMessage, TellsPolicyFault}
use Rattle.seccompiler_c.specs.Policies.{NamesPolicy, NamesNone, TellsTextFault}
use Rattle.seccompiler_c.specs.declared.fault.Fault.{Fault}
use Rattle.seccompiler_c.specs.declared.fault.Fault.TheVariants.{OutOfMemory, UnknownArchitecture, UnknownLayout, Text, NoFilter}
use Rattle.seccompiler_c.specs.declared.fault.Fault.TheVariants.{Filter as TooLarge, NoRoom}

-- What a caller asks for: the filter of a name in a JSON text, compiled for the architecture of a word in the layout of
-- a number, if the program has at most so many instructions.
pub record Request : Type 0 where
  pub text : List ℕ
  pub architecture : ℕ
  pub name : List ℕ
  pub layout : ℕ
  pub capacity : ℕ

-- The error reports that the policy's program would be too long in this layout.
abbrev pub IsTooLargeIn : Layout → Filter → FilterError → Type 0
IsTooLargeIn layout policy (FilterTooLarge n) = IsRefusalIn layout policy (FilterTooLarge n)
IsTooLargeIn layout policy TreeTooLarge = IsRefusalIn layout policy TreeTooLarge
IsTooLargeIn layout policy e = ⊥

-- Why the policy has no program in this layout: it would be too long, or memory runs out.
abbrev pub IsUncompiledIn : Layout → Filter → Fault → Type 0
IsUncompiledIn layout policy OutOfMemory = ⊤
IsUncompiledIn layout policy (TooLarge e) = IsTooLargeIn layout policy e
IsUncompiledIn layout policy f = ⊥

-- The words name an architecture and a layout, for which P holds.
abbrev pub OfWords : Request → (TargetArch → Layout → Type 0) → Type 0
OfWords r P = OfArchitecture r.architecture (λ target. OfLayout r.layout (λ layout. P target layout))

-- The words name an architecture and a layout, the text has no fault, and P holds of the filter of the name.
abbrev pub OfPolicy : Request → (Layout → Filter → Type 0) → Type 0
OfPolicy r P = OfWords r (λ target layout. NamesPolicy target r.text r.name (P layout))

-- The filter of the name has a program in the layout, for which P holds.
abbrev pub OfProgram : Request → (List sock_filter → Type 0) → Type 0
OfProgram r P = OfPolicy r (λ layout policy. (program : List sock_filter) × IsCompiledIn layout policy program × P program)

-- Why a request is refused: for the first of these that is so. Lack of memory may come in place of all but the first
-- two.
abbrev pub IsRefusal : Request → Fault → Type 0
IsRefusal r OutOfMemory = OfWords r (λ target layout. ⊤)
IsRefusal r UnknownArchitecture = IsNoArchitecture r.architecture
IsRefusal r UnknownLayout = OfArchitecture r.architecture (λ target. IsNoLayout r.layout)
IsRefusal r (Text e) = OfWords r (λ target layout. TellsTextFault target r.text e)
IsRefusal r NoFilter = OfWords r (λ target layout. NamesNone target r.text r.name)
IsRefusal r (TooLarge e) = OfPolicy r (λ layout policy. IsTooLargeIn layout policy e)
IsRefusal r (NoRoom n) = OfProgram r (λ program. (n ≡ length program) × (r.capacity < length program))
IsRefusal r f = ⊥

-- The array holds the program, and after it what it held; the answer is the program's length.
pub record Holds (old new : List sock_filter) (answer : ℤ) (program : List sock_filter) : Type 0 where
  pub room : length program ≤ length old
  pub written : new ≡ program ++ drop (length program) old
  pub told : answer ≡ pos (length program)

-- What seccompiler_compile answers, what the array then holds, and what the message: the program, and an empty
-- sentence; or what the array held before, if the request is refused; the answer is the refusal's code, and the
-- sentence reports it, on the architecture that was asked for.
pub data AnswersCompile (r : Request) (old new : List sock_filter) (answer : ℤ) (message_old message_new : List ℕ) : Type 0 where
  compiled : OfProgram r (Holds old new answer) → HoldsMessage [] message_old message_new
      → AnswersCompile r old new answer message_old message_new
  refused : (fault : Fault) → IsRefusal r fault → answer ≡ code_of fault → new ≡ old
      → TellsPolicyFault (IsArchitecture r.architecture) r.text fault message_old message_new
      → AnswersCompile r old new answer message_old message_new
