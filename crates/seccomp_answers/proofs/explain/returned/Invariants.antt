use Rattle.std.proofs.Common.{take}
use Rattle.std.specs.List.{AllZip}
use Rattle.seccomp_answers.specs.Explain.{IsReturned}
use Rattle.seccomp_answers.proofs.explain.returned.Given as goal

-- the records so far are explained
abbrev pub invariant-loop-call : goal.invariant-loop-call
invariant-loop-call l = AllZip (IsReturned l.abi l.program) (take l.call-index l.records) l.all.items
