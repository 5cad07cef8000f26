use Rattle.std.proofs.Common.{◌≡◌, ◌++◌, map, string_bytes, take}
use Rattle.std.specs.List.{flat_map}
use Rattle.seccomp_profiles.specs.Taken.{entries_for_name}
use Rattle.seccomp_profiles.proofs.taken.push_for_each.Given as goal

abbrev pub invariant-loop-name : goal.invariant-loop-name
invariant-loop-name l =
    l.all.items ≡ l.initial.all.items ++ flat_map (entries_for_name l.entry) (map string_bytes (take l.name-index l.names))
