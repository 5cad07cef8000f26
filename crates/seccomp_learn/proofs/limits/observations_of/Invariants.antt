use Rattle.std.proofs.Common.{◌≡◌, All, take}
use Rattle.std.specs.Prelude.{Contains}
use Rattle.seccomp_learn.specs.declared.observation.Observation.{Observation}
use Rattle.seccomp_learn.proofs.limits.observations_of.Given as goal

abbrev pub invariant-loop-observation : goal.invariant-loop-observation
invariant-loop-observation l = record {
  among : All (λ o. Contains l.observed o × (o.number ≡ l.number)) l.own.items;
  all : All (λ (o : Observation). o.number ≡ l.number → Contains l.own.items o) (take l.observation-index l.observed);
}
