use Rattle.std.proofs.Common.{take}
use Rattle.std.specs.List.{AllZip}
use Rattle.seccomp_profiles.specs.Concerns.{IsConcernOf}
use Rattle.seccomp_profiles.proofs.concerns.concerns_of.Given as goal

abbrev pub invariant-loop-entry : goal.invariant-loop-entry
invariant-loop-entry l = AllZip (IsConcernOf l.abi l.container l.default) (take l.entry-index l.entries) l.concerns.items
