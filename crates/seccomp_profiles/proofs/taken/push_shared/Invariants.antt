use Rattle.std.proofs.Common.{◌≡◌, ◌++◌, take}
use Rattle.std.specs.List.{flat_map}
use Rattle.seccomp_profiles.specs.Taken.{entries_for_names}
use Rattle.seccomp_profiles.proofs.taken.push_shared.Given as goal

abbrev pub invariant-loop-entry : goal.invariant-loop-entry
invariant-loop-entry l = l.all.items ≡ l.initial.all.items ++ flat_map entries_for_names (take l.entry-index l.entries)
