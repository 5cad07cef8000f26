use Rattle.std.proofs.Common.{◌≡◌, map, string_bytes, take}
use Rattle.seccomp_profiles.proofs.taken.copies.Given as goal

abbrev pub invariant-loop-text : goal.invariant-loop-text
invariant-loop-text l = map string_bytes l.all.items ≡ map string_bytes (take l.text-index l.texts)
