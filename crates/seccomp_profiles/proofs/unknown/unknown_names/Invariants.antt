use Rattle.std.proofs.Common.{map, take, string_bytes}
use Rattle.seccomp_profiles.specs.LeftOut.{AreLeftOut}
use Rattle.seccomp_profiles.proofs.unknown.unknown_names.Given as goal

abbrev pub invariant-loop-entry : goal.invariant-loop-entry
invariant-loop-entry l = AreLeftOut l.arch l.container (take l.entry-index l.entries) (map string_bytes l.left_out.items)
