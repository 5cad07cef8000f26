use Rattle.std.proofs.Common.{◌≡◌, map, take}
use Rattle.seccomp_profiles.specs.Taken.{cut_entry}
use Rattle.seccomp_profiles.proofs.taken.taken.Given as goal

abbrev pub invariant-loop-entry : goal.invariant-loop-entry
invariant-loop-entry l = l.all.items ≡ map cut_entry (take l.entry-index l.entries)
