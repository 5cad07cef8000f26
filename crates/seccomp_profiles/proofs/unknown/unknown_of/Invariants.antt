use Rattle.std.proofs.Common.{map, take, string_bytes}
use Rattle.seccomp_profiles.specs.LeftOut.{AreUnknown}
use Rattle.seccomp_profiles.proofs.unknown.unknown_of.Given as goal

abbrev pub invariant-loop-name : goal.invariant-loop-name
invariant-loop-name l = AreUnknown l.arch (map string_bytes (take l.name-index l.names)) (map string_bytes l.unknown.items)
