use Rattle.std.proofs.Common.{◌≡◌, map, take}
use Rattle.seccomp_warnings.specs.ProfileParts.{part_of}
use Rattle.seccomp_warnings.proofs.profile.parts.each_part.Given as goal

-- those of the actions so far
abbrev pub invariant-loop-action : goal.invariant-loop-action
invariant-loop-action l = l.parts.items ≡ map (part_of l.target l.default l.effective) (take l.action-index l.actions)
