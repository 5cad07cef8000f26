use Rattle.std.proofs.Common.{All, AllPairs, take}
use Rattle.std.specs.Prelude.{Any, Contains}
use Rattle.seccomp_learn.specs.Observed.{IsSeenAlike, IsSeenApart}
use Rattle.seccomp_learn.proofs.limits.different_in.Given as goal

abbrev pub invariant-loop-observation : goal.invariant-loop-observation
invariant-loop-observation l = record {
  among : All (Contains l.own) l.different.items;
  apart : AllPairs (IsSeenApart l.kept) l.different.items;
  alike : All (λ o. Any (λ other. IsSeenAlike l.kept other o) l.different.items) (take l.observation-index l.own);
}
