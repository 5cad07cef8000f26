-- What `compile` and `stack` write of a program.
use Rattle.std.specs.Prelude.{◌≡◌, ℕ, List, ⊤}
use Rattle.seccompiler.specs.declared.bpf.sock_filter.{sock_filter}
use Rattle.seccomp_answers.specs.Compiled.{program_bytes}
use Rattle.seccomp_views.specs.declared.program.ProgramFormat.{ProgramFormat}
use Rattle.seccomp_views.specs.declared.program.ProgramFormat.TheVariants.{Raw}

-- This is written of the program: its bytes, if they are asked for. Which text of it is written isn't said.
abbrev pub IsWrittenAs : ProgramFormat → List sock_filter → (written : List ℕ) → Type 0
IsWrittenAs Raw program written = written ≡ program_bytes program
IsWrittenAs format program written = ⊤
