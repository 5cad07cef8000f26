use Rattle.std.proofs.Common.{◌≡◌, take}
use Rattle.seccomp_warnings.specs.ProfileParts.{entries_of}
use Rattle.seccomp_warnings.proofs.profile.parts.entries_of_number.Given as goal

-- those of the entries so far
abbrev pub invariant-loop-entry : goal.invariant-loop-entry
invariant-loop-entry l = l.own.items ≡ entries_of l.number (take l.entry-index l.entries)
