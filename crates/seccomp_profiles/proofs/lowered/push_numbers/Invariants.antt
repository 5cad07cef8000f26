use Rattle.std.proofs.Common.{◌≡◌, ◌++◌, take}
use Rattle.std.specs.List.{flat_map}
use Rattle.seccomp_profiles.specs.Concerns.{entries_of_lists}
use Rattle.seccomp_profiles.proofs.concerns.Conditions.{lists_of}
use Rattle.seccomp_profiles.proofs.lowered.push_numbers.Given as goal

-- those of the numbers so far
abbrev pub invariant-loop-number : goal.invariant-loop-number
invariant-loop-number l =
    l.all.items ≡ l.initial.all.items ++ flat_map (entries_of_lists l.place l.action (lists_of l.lists)) (take l.number-index l.numbers)
