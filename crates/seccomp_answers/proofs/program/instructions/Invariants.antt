use Rattle.std.proofs.Common.{◌≡◌, All, map, take}
use Rattle.seccompiler.specs.Machine.{IsInRange}
use Rattle.seccomp_answers.proofs.program.instructions.Given as goal
use Rattle.seccomp_answers.specs.Compiled.{instruction_bytes}

abbrev pub invariant-loop-piece : goal.invariant-loop-piece
invariant-loop-piece l = (map instruction_bytes l.program.items ≡ take l.piece-index l.pieces) × All IsInRange l.program.items
