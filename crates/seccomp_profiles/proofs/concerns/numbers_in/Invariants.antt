use Rattle.std.proofs.Common.{map, string_bytes, take}
use Rattle.seccomp_profiles.proofs.concerns.Numbers.{AreNumbersOf}
use Rattle.seccomp_profiles.proofs.concerns.numbers_in.Given as goal

abbrev pub invariant-loop-name : goal.invariant-loop-name
invariant-loop-name l = AreNumbersOf l.abi (map string_bytes (take l.name-index l.names)) l.numbers.items
