use Rattle.std.proofs.Common.{◌≡◌, ◌++◌, take}
use Rattle.seccomp_warnings.specs.Warnings.{subjects_at}
use Rattle.seccomp_warnings.proofs.walk.push_entry.Given as goal

-- the entry, and its conditions so far
abbrev pub invariant-loop-nth : goal.invariant-loop-nth
invariant-loop-nth l =
    l.subjects.items ≡ l.fn.subjects.items ++ subjects_at (l.place, record l.own { conditions = take l.nth l.own.conditions })
