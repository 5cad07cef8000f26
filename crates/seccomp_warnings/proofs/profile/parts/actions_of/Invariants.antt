use Rattle.std.proofs.Common.{take}
use Rattle.seccomp_warnings.specs.ProfileParts.{AreActions, actions_in}
use Rattle.seccomp_warnings.proofs.profile.parts.actions_of.Given as goal

-- those of the entries so far
abbrev pub invariant-loop-entry : goal.invariant-loop-entry
invariant-loop-entry l = AreActions l.fn.default (actions_in (take l.entry-index l.entries)) l.actions.items
