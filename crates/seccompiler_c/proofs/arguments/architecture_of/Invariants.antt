use Rattle.std.proofs.Common.{take}
use Rattle.std.specs.Prelude.{All}
use Rattle.seccompiler_c.specs.Arguments.{IsArchitecture}
use Rattle.seccompiler_c.proofs.arguments.architecture_of.Given as goal

-- the word is that of no architecture so far
abbrev pub invariant-loop-target : goal.invariant-loop-target
invariant-loop-target l = All (λ target. IsArchitecture l.word target → ⊥) (take l.target-index l.targets)
