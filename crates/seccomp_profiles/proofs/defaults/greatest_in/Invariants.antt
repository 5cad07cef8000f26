use Rattle.std.proofs.Common.{take}
use Rattle.seccomp_profiles.specs.Abis.{end_for}
use Rattle.seccomp_profiles.specs.Decision.{IsNamed}
use Rattle.seccomp_profiles.specs.Defaults.{IsGreatest}
use Rattle.seccomp_profiles.proofs.defaults.greatest_in.Given as goal

abbrev pub invariant-loop-entry : goal.invariant-loop-entry
invariant-loop-entry l = IsGreatest (end_for l.abi) (IsNamed l.abi l.container (take l.entry-index l.entries)) l.greatest
