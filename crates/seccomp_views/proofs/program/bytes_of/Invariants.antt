use Rattle.std.proofs.Common.{◌≡◌, take}
use Rattle.seccomp_views.proofs.program.bytes_of.Given as goal
use Rattle.seccomp_answers.specs.Compiled.{program_bytes}

abbrev pub invariant-loop-instruction : goal.invariant-loop-instruction
invariant-loop-instruction l = l.bytes.items ≡ program_bytes (take l.instruction-index l.program)
