use Rattle.std.proofs.Common.{map}
use Rattle.seccomp_entries.specs.Verdicts.{AreBeside}
use Rattle.seccomp_entries.proofs.verdict.others_of.Given as goal

-- they are those so far
abbrev pub invariant-loop-index : goal.invariant-loop-index
invariant-loop-index l = AreBeside l.entries l.place l.number l.index (map (λ q. q.now) l.others.items)
