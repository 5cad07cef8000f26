use Rattle.std.proofs.Common.{take}
use Rattle.std.specs.List.{AllZip}
use Rattle.seccomp_answers.specs.Explain.{IsExplainedOn}
use Rattle.seccomp_answers.proofs.explain.explain_seen.Given as goal

-- the records so far are explained
abbrev pub invariant-loop-call : goal.invariant-loop-call
invariant-loop-call l = AllZip (IsExplainedOn l.abi l.lowered) (take l.call-index l.records) l.all.items
