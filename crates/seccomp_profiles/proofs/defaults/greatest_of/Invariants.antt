use Rattle.std.proofs.Common.{map, string_bytes, take}
use Rattle.std.specs.Prelude.{Any}
use Rattle.seccomp_profiles.specs.Abis.{end_for}
use Rattle.seccomp_profiles.specs.Decision.{IsNameOf}
use Rattle.seccomp_profiles.specs.Defaults.{IsGreatest}
use Rattle.seccomp_profiles.proofs.defaults.greatest_of.Given as goal

abbrev pub invariant-loop-name : goal.invariant-loop-name
invariant-loop-name l = IsGreatest (end_for l.abi) (λ n. Any (IsNameOf l.abi n) (map string_bytes (take l.name-index l.names))) l.greatest
