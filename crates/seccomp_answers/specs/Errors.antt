-- How an error of a layer below becomes one of the tool's.
use Rattle.std.specs.Prelude.{◌≡◌, ◌≢◌, ◌⊎◌, ℕ, ◌<◌, String, length}
use Rattle.std.specs.declared.alloc.Global.{Global}
use Rattle.seccompiler.specs.declared.backend.BackendError.TheVariants as backend
use Rattle.seccompiler.specs.declared.error.Error.{Error as LibraryError}
use Rattle.seccompiler.specs.declared.error.Error.TheVariants as library
use Rattle.seccomp_tree.specs.declared.error.FilterError.{FilterError}
use Rattle.seccomp_tree.specs.declared.error.FilterError.TheVariants as filter
use Rattle.seccomp_stack.specs.declared.StackError.{StackError}
use Rattle.seccomp_stack.specs.declared.StackError.TheVariants as stack
use Rattle.seccomp_faults.specs.declared.policy.Rejection.{Rejection}
use Rattle.seccomp_faults.specs.declared.policy.Rejection.TheVariants as rejection
use Rattle.seccomp_answers.specs.declared.error.AnswerError.{AnswerError}
use Rattle.seccomp_answers.specs.declared.error.AnswerError.TheVariants.{Library, OutOfMemory, Second}
use Rattle.seccomp_answers.specs.declared.error.AnswerError.TheVariants as tool

-- A policy's rejection as an error: of faults one is told, which is one of them if there are some. Or memory ran out.
abbrev pub IsToldAs : Rejection → AnswerError → Type 0
IsToldAs (rejection.Library e) error = error ≡ Library e
IsToldAs (rejection.Placed first faults) error = (error ≡ OutOfMemory)
    ⊎ ((told : ℕ) × (error ≡ tool.Placed told faults) × (first < length faults.items → told < length faults.items))
IsToldAs rejection.OutOfMemory error = error ≡ OutOfMemory

-- A refusal of the library; want of memory stays want of memory.
abbrev pub from_library : LibraryError → AnswerError
from_library library.OutOfMemory = OutOfMemory
from_library refusal = Library refusal

-- Why a filter has no program: the library's refusal, or that its tree is too large.
abbrev pub from_filter : FilterError → AnswerError
from_filter (filter.InvalidSyscallNumber n) = Library (library.Backend (backend.InvalidSyscallNumber n))
from_filter (filter.FilterTooLarge n) = Library (library.Backend (backend.FilterTooLarge n))
from_filter filter.TreeTooLarge = tool.TreeTooLarge
from_filter filter.OutOfMemory = OutOfMemory

-- Why programs make no stack.
abbrev pub from_stack : StackError → AnswerError
from_stack (stack.TooLong n) = tool.StackTooLong n
from_stack stack.OutOfMemory = OutOfMemory

-- An error is told as one of the second of what is read, and is no lack of memory; or memory ran out.
abbrev pub IsOfSecond : (own error : AnswerError) → Type 0
IsOfSecond own error = (error ≡ OutOfMemory) ⊎ ((own ≢ OutOfMemory) × (told : String Global) × (error ≡ Second told))

-- An error is told with its path, and is no lack of memory; or memory ran out.
abbrev pub IsAtPath : (own error : AnswerError) → Type 0
IsAtPath own error = (error ≡ OutOfMemory) ⊎ ((own ≢ OutOfMemory) × (told : String Global) × (error ≡ tool.Told told))
