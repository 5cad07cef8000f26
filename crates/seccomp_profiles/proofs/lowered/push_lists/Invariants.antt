use Rattle.std.proofs.Common.{◌≡◌, ◌++◌, take}
use Rattle.seccomp_profiles.specs.Concerns.{entries_from}
use Rattle.seccomp_profiles.proofs.concerns.Conditions.{lists_of}
use Rattle.seccomp_profiles.proofs.lowered.push_lists.Given as goal

-- those of the lists so far
abbrev pub invariant-loop-index : goal.invariant-loop-index
invariant-loop-index l = l.all.items
    ≡ l.initial.all.items ++ entries_from l.place l.action l.number l.is_alone 0 (lists_of (take l.index l.lists))
