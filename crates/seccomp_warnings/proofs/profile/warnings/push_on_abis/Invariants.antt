use Rattle.std.proofs.Common.{◌≡◌, ◌++◌, map, take}
use Rattle.seccomp_warnings.specs.declared.profile.warnings.ProfileWarning.TheVariants.{AbiEvaded}
use Rattle.seccomp_warnings.proofs.profile.warnings.push_on_abis.Given as goal

-- those so far
abbrev pub invariant-loop-evasion : goal.invariant-loop-evasion
invariant-loop-evasion l = l.all.items ≡ l.fn.all.items ++ map AbiEvaded (take l.evasion-index l.evasions)
