use Rattle.std.proofs.Common.{map, string_bytes}
use Rattle.seccomp_profiles.specs.Shape.{IsText}
use Rattle.seccomp_profiles.proofs.lists.ReadLists.{IsReadTo}
use Rattle.seccomp_profiles.proofs.lists.read_texts.Given as goal

abbrev pub invariant-loop-item : goal.invariant-loop-item
invariant-loop-item l = IsReadTo IsText l.items l.item-index (map string_bytes l.found.items)
