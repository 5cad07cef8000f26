use Rattle.std.proofs.Common.{◌≡◌, ◌++◌, take}
use Rattle.std.specs.List.{enumerate_from, flat_map}
use Rattle.seccomp_warnings.specs.Warnings.{first_subjects, subjects_at}
use Rattle.seccomp_warnings.proofs.walk.subjects_of.Given as goal

-- the actions, calls, and entries so far
abbrev pub invariant-loop-place : goal.invariant-loop-place
invariant-loop-place l =
    l.subjects.items ≡ first_subjects l.part ++ flat_map subjects_at (enumerate_from 0 (take l.place l.part.entries))
