use Rattle.std.proofs.Common.{◌≡◌, take}
use Rattle.std.specs.List.{filter}
use Rattle.seccomp_answers.specs.Findings.{is_kept}
use Rattle.seccomp_answers.proofs.findings.pieces.kept.Given as goal

-- those so far
abbrev pub invariant-loop-finding : goal.invariant-loop-finding
invariant-loop-finding l = l.findings.items ≡ filter is_kept (take l.finding-index l.all)
