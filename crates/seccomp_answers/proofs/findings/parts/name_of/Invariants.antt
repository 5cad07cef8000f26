use Rattle.std.proofs.Common.{◌≡◌, drop}
use Rattle.seccompiler.specs.Architecture.{table_of}
use Rattle.seccomp_answers.specs.Findings.{name_of}
use Rattle.seccomp_answers.proofs.findings.parts.name_of.Given as goal

-- no pair so far has the number
abbrev pub invariant-loop-place : goal.invariant-loop-place
invariant-loop-place l = name_of (drop l.place (table_of l.fn.target)) l.fn.number ≡ name_of (table_of l.fn.target) l.fn.number
