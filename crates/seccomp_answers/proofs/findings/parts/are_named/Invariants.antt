use Rattle.std.proofs.Common.{length, take, ◌≡◌}
use Rattle.seccompiler.specs.Architecture.{table_of}
use Rattle.seccomp_answers.proofs.findings.Names.{AreMarked}
use Rattle.seccomp_answers.proofs.findings.parts.are_named.Given as goal

-- the numbers so far are marked
abbrev pub invariant-loop-number : goal.invariant-loop-number
invariant-loop-number l = record {
  long : length l.named ≡ 512;
  marked : AreMarked (take l.number-index (table_of l.fn.target)) l.named;
}
