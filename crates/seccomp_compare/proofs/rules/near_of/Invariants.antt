use Rattle.std.proofs.Common.{map}
use Rattle.std.specs.Prelude.{All, Contains}
use Rattle.seccomp_compare.proofs.rules.near_of.Given as goal

-- they are some of the others
abbrev pub invariant-loop-other : goal.invariant-loop-other
invariant-loop-other l = All (Contains (map (λ q. q.now) l.others)) (map (λ q. q.now) l.near.items)
