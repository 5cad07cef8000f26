-- The calls that the C library makes by itself, and the arguments that are kept unless more is asked for.
use Rattle.std.specs.Prelude.{◌≡◌, ◌↔◌, ℕ, List, [], ◌∷◌, pos, Option, Some, None, All, Any, Bool, true, false, IsTrue, Contains, codes}
use Rattle.std.specs.Borrow.{Bor}
use Rattle.std.specs.Prelude.{map, slice_index_or}
use Rattle.seccompiler.specs.declared.backend.SeccompCmpArgLen.TheVariants.{Dword, Qword}
use Rattle.seccompiler.specs.declared.backend.TargetArch.{TargetArch}
use Rattle.seccompiler.specs.Architecture.{table_of}
use Rattle.seccompiler.specs.SyscallTable.{number_of}
use Rattle.seccomp_learn.specs.declared.observation.Kept.{Kept}
use Rattle.seccomp_learn.specs.declared.observation.Observation.{Observation}

-- The calls that glibc and musl make by themselves in a program that starts, allocates, makes threads, aborts and ends, and dash as
-- the shell of `system`; of `fcntl` and `ioctl` those alone that have this argument 1: F_DUPFD, F_SETFD, F_GETFL, TCGETS, TIOCGWINSZ.
abbrev pub runnable : List (List ℕ × Option ℕ)
runnable =
    (codes "access", None) ∷ (codes "arch_prctl", None) ∷ (codes "brk", None) ∷ (codes "chdir", None)
    ∷ (codes "clock_getres", None) ∷ (codes "clock_gettime", None) ∷ (codes "clock_nanosleep", None) ∷ (codes "clone", None)
    ∷ (codes "clone3", None) ∷ (codes "close", None) ∷ (codes "dup", None) ∷ (codes "dup2", None) ∷ (codes "dup3", None)
    ∷ (codes "execve", None) ∷ (codes "exit", None) ∷ (codes "exit_group", None) ∷ (codes "faccessat", None)
    ∷ (codes "faccessat2", None) ∷ (codes "fcntl", Some 0) ∷ (codes "fcntl", Some 2) ∷ (codes "fcntl", Some 3)
    ∷ (codes "fstat", None) ∷ (codes "futex", None) ∷ (codes "getcwd", None) ∷ (codes "getegid", None) ∷ (codes "geteuid", None)
    ∷ (codes "getgid", None) ∷ (codes "getpid", None) ∷ (codes "getppid", None) ∷ (codes "getrandom", None)
    ∷ (codes "gettid", None) ∷ (codes "gettimeofday", None) ∷ (codes "getuid", None) ∷ (codes "ioctl", Some 0x5401)
    ∷ (codes "ioctl", Some 0x5413) ∷ (codes "lseek", None) ∷ (codes "madvise", None) ∷ (codes "membarrier", None)
    ∷ (codes "mmap", None) ∷ (codes "mprotect", None) ∷ (codes "mremap", None) ∷ (codes "munmap", None)
    ∷ (codes "nanosleep", None) ∷ (codes "newfstatat", None) ∷ (codes "open", None) ∷ (codes "openat", None)
    ∷ (codes "pipe2", None) ∷ (codes "pread64", None) ∷ (codes "prlimit64", None) ∷ (codes "read", None)
    ∷ (codes "readlink", None) ∷ (codes "readlinkat", None) ∷ (codes "restart_syscall", None) ∷ (codes "riscv_hwprobe", None)
    ∷ (codes "rseq", None) ∷ (codes "rt_sigaction", None) ∷ (codes "rt_sigprocmask", None) ∷ (codes "rt_sigreturn", None)
    ∷ (codes "sched_getaffinity", None) ∷ (codes "sched_yield", None) ∷ (codes "set_robust_list", None)
    ∷ (codes "set_tid_address", None) ∷ (codes "stat", None) ∷ (codes "sysinfo", None) ∷ (codes "tgkill", None)
    ∷ (codes "time", None) ∷ (codes "tkill", None) ∷ (codes "vfork", None) ∷ (codes "wait4", None) ∷ (codes "write", None)
    ∷ (codes "writev", None) ∷ []

-- The arguments, by their indices, of which 32 bits are kept unless more is asked for.
abbrev pub choosing : List (List ℕ × ℕ)
choosing =
    (codes "fcntl", 1) ∷ (codes "ioctl", 1) ∷ (codes "prctl", 0) ∷ (codes "socket", 0) ∷ (codes "socket", 1) ∷ (codes "socket", 2) ∷ []

-- The call of the architecture with this name has this number.
abbrev pub IsNumbered : TargetArch → (name : List ℕ) → (number : ℕ) → Type 0
IsNumbered arch name number = number_of (table_of arch) name ≡ Some (pos number)

-- These are made of the names that the architecture has calls of, of each what stands beside it, and there are no others.
pub record AreOfNames {B X : Type 0} (arch : TargetArch) (make : ℕ → B → X) (names : List (List ℕ × B)) (made : List X) : Type 0 where
  pub only : All (λ x. Any (λ (entry : List ℕ × B). (n : ℕ) × IsNumbered arch entry.0 n × (x ≡ make n entry.1)) names) made
  pub each : All (λ (entry : List ℕ × B). (n : ℕ) → IsNumbered arch entry.0 n → Contains made (make n entry.1)) names

-- The names of a table of the code, each with what stands beside it.
abbrev pub entries_of : {B : Type 0} → List (Bor (List ℕ) × B) → List (List ℕ × B)
entries_of {B} table = map (λ (entry : Bor (List ℕ) × B). (entry.0.now, entry.1)) table

-- A call of which argument 1 alone is known, if it is.
abbrev pub runnable_call : ℕ → Option ℕ → Observation
runnable_call n request = record {
  number = n;
  arguments = None ∷ request ∷ None ∷ None ∷ None ∷ None ∷ [];
  short = false ∷ false ∷ false ∷ false ∷ false ∷ false ∷ [];
}

-- 32 bits of an argument.
abbrev pub usual_argument : ℕ → ℕ → Kept
usual_argument n index = record { number = n; arg_index = index; arg_len = Dword }

-- These are the calls that the C library makes by itself.
abbrev pub AreRunnable : TargetArch → List Observation → Type 0
AreRunnable arch calls = AreOfNames arch runnable_call runnable calls

-- The calls by which threads and processes are made, of which the second hides its flags in memory.
abbrev pub cloning : List (List ℕ × Option ℕ)
cloning = (codes "clone", None) ∷ (codes "clone3", None) ∷ []

-- These are the calls by which threads and processes are made.
abbrev pub AreCloning : TargetArch → List Observation → Type 0
AreCloning arch calls = AreOfNames arch runnable_call cloning calls

-- These are the arguments that are kept unless more is asked for.
abbrev pub AreUsual : TargetArch → List Kept → Type 0
AreUsual arch kept = AreOfNames arch usual_argument choosing kept

-- The call has this number, and the argument in its low 32 bits alone.
abbrev pub IsShort : (number index : ℕ) → Observation → Type 0
IsShort number index o = (o.number ≡ number) × (slice_index_or o.short index false ≡ true)

-- One of the observed calls is so.
abbrev pub IsShortIn : List Observation → (number index : ℕ) → Type 0
IsShortIn observed number index = Any (IsShort number index) observed

-- An argument that is kept since it is asked for: 32 bits of it, if no more is known of an observed call; else all 64.
abbrev pub asked_argument : (short : Bool) → (number index : ℕ) → Kept
asked_argument true number index = record { number = number; arg_index = index; arg_len = Dword }
asked_argument false number index = record { number = number; arg_index = index; arg_len = Qword }

pub record IsAskedArgument (observed : List Observation) (number index : ℕ) (kept : Kept) : Type 0 where
  pub short : Bool
  pub is : kept ≡ asked_argument short number index
  pub known : IsTrue short ↔ IsShortIn observed number index
