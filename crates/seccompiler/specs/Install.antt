-- Installing a program: the two calls of a kernel, in order, and what is answered.
use Rattle.std.specs.Prelude.{◌≡◌, ◌≢◌, ℕ, ℤ, pos, ◌<ℤ◌, List, [], Result, Ok, Err, ⊤}
use Rattle.seccompiler.specs.declared.bpf.sock_filter.{sock_filter}
use Rattle.seccompiler.specs.declared.error.Error.{Error}
use Rattle.seccompiler.specs.declared.error.Error.TheVariants.{EmptyFilter, Prctl, Seccomp, ThreadSync}

-- What is answered to the code and the error number of the call that asks for the filter (seccomp(2)): a negative code
-- says that the call failed, a positive one is the id of a thread that could not take the filter, 0 says that the filter is installed.
pub data AnswersCode (code number : ℤ) (answer : Result ⊤ Error) : Type 0 where
  call_failed : code <ℤ pos 0 → answer ≡ Err (Seccomp number) → AnswersCode code number answer
  thread_failed : pos 0 <ℤ code → answer ≡ Err (ThreadSync code) → AnswersCode code number answer
  installed : code ≡ pos 0 → answer ≡ Ok tt → AnswersCode code number answer

-- What installing a program with these flags does and answers, for a kernel whose two calls are these relations: between
-- the kernel before, what is passed, the code and the error number that come back, and the kernel after. An empty program
-- is refused without a call. Else no_new_privs is set; if that fails, nothing further is called. Else the filter is
-- asked for, once, and the code of that call tells the answer.
pub data Applied {K : Type 0} (no_new_privs : K → ℤ → ℤ → K → Type 0) (mode_filter : K → ℕ → List sock_filter → ℤ → ℤ → K → Type 0)
    (before : K) (flags : ℕ) (program : List sock_filter) (after : K) (answer : Result ⊤ Error) : Type 0 where
  empty_program : program ≡ [] → after ≡ before → answer ≡ Err EmptyFilter
      → Applied no_new_privs mode_filter before flags program after answer
  no_new_privs_failed : program ≢ [] → (code number : ℤ) → no_new_privs before code number after
      → code ≢ pos 0 → answer ≡ Err (Prctl number)
      → Applied no_new_privs mode_filter before flags program after answer
  filter_asked_for : program ≢ [] → (unused : ℤ) (between : K) → no_new_privs before (pos 0) unused between
      → (code number : ℤ) → mode_filter between flags program code number after → AnswersCode code number answer
      → Applied no_new_privs mode_filter before flags program after answer
