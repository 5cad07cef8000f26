use Rattle.std.proofs.Common.{◌≡◌, drop}
use Rattle.seccomp_answers.specs.Diff.{verdict_all}
use Rattle.seccomp_answers.specs.Findings.{worse}
use Rattle.seccomp_answers.proofs.diff.Diff.verdict.Given as goal

-- with the rest it is the verdict of all
abbrev pub invariant-loop-named : goal.invariant-loop-named
invariant-loop-named l = worse l.verdict (verdict_all (drop l.named-index l.named-items)) ≡ verdict_all l.named-items
