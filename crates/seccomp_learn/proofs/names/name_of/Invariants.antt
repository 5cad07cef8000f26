use Rattle.std.proofs.Common.{◌≡◌, Some, All, take}
use Rattle.seccompiler.specs.Architecture.{table_of}
use Rattle.seccompiler.specs.SyscallTable.{number_of}
use Rattle.seccomp_learn.proofs.names.name_of.Given as goal

-- no pair so far is the one that is asked for
abbrev pub invariant-loop-place : goal.invariant-loop-place
invariant-loop-place l =
    All (λ pair. pair.1 ≡ l.wanted → number_of (table_of l.fn.arch) pair.0 ≡ Some l.wanted → ⊥) (take l.place (table_of l.fn.arch))
