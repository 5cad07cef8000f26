use Rattle.seccomp_profiles.specs.Concerns.{AreLoweredTo}
use Rattle.seccomp_profiles.proofs.lowered.entries_of.Given as goal

-- those of the ranks so far
abbrev pub invariant-loop-rank : goal.invariant-loop-rank
invariant-loop-rank l = AreLoweredTo l.concerns.items l.rank l.all.items
