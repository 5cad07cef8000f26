use Rattle.std.proofs.Common.{◌≡◌, take}
use Rattle.std.specs.List.{filter}
use Rattle.seccomp_warnings.specs.ProfileParts.{is_in}
use Rattle.seccomp_warnings.proofs.profile.parts.part_of.Given as goal

-- those of the entries so far
abbrev pub invariant-loop-entry : goal.invariant-loop-entry
invariant-loop-entry l = l.entries.items ≡ filter (is_in l.action) (take l.entry-index l.effective)
