use Rattle.std.proofs.Common.{◌⊎◌, All, take}
use Rattle.std.specs.Prelude.{Contains}
use Rattle.seccomp_learn.specs.Observed.{HasFewValues, HasMoreValues}
use Rattle.seccomp_learn.proofs.limits.within.Given as goal

abbrev pub invariant-loop-each : goal.invariant-loop-each
invariant-loop-each l = record {
  among : All (Contains l.kept) l.left.items;
  few : All (λ each. HasFewValues l.limit l.kept l.observed each.number) l.left.items;
  left_out : All (λ each. Contains l.left.items each ⊎ HasMoreValues l.limit l.kept l.observed each.number) (take l.each-index l.kept);
}
