use Rattle.std.proofs.Common.{take}
use Rattle.std.specs.List.{AllZip}
use Rattle.seccomp_answers.specs.Explain.{IsExplainedBy}
use Rattle.seccomp_answers.proofs.explain.explain_each.Given as goal

-- the records so far are explained
abbrev pub invariant-loop-call : goal.invariant-loop-call
invariant-loop-call l = AllZip (IsExplainedBy l.lowered) (take l.call-index l.records) l.all.items
