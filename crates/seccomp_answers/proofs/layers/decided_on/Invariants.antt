use Rattle.std.proofs.Common.{take}
use Rattle.std.specs.List.{AllZip}
use Rattle.seccomp_answers.specs.Explain.{IsOfStack}
use Rattle.seccomp_answers.proofs.layers.decided_on.Given as goal

-- the records so far are decided
abbrev pub invariant-loop-call : goal.invariant-loop-call
invariant-loop-call l = AllZip (IsOfStack l.target l.programs) (take l.call-index l.records) l.all.items
