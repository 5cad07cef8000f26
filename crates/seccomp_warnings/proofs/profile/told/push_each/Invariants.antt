use Rattle.std.proofs.Common.{◌≡◌, ◌++◌, Some, map, take}
use Rattle.seccomp_warnings.specs.ProfileParts.{origin_of}
use Rattle.seccomp_warnings.specs.declared.profile.warnings.ProfileWarning.TheVariants.{OfEntries}
use Rattle.seccomp_warnings.proofs.profile.told.push_each.Given as goal

-- those of the entries so far
abbrev pub invariant-loop-entry : goal.invariant-loop-entry
invariant-loop-entry l =
    l.told.items ≡ l.fn.told.items ++ map (OfEntries l.warning) (map (λ e. Some (origin_of e)) (take l.entry-index l.part.entries))
