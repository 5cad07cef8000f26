use Rattle.std.proofs.Common.{◌≡◌, drop}
use Rattle.seccomp_answers.specs.Findings.{worse, verdict_of}
use Rattle.seccomp_answers.proofs.findings.verdict_of.Given as goal

-- the verdict so far and that of the rest are the whole one
abbrev pub invariant-loop-finding : goal.invariant-loop-finding
invariant-loop-finding l = worse l.verdict (verdict_of (drop l.finding-index l.findings)) ≡ verdict_of l.findings
