use Rattle.seccomp_profiles.proofs.lists.ReadLists.{IsReadTo}
use Rattle.seccomp_profiles.proofs.lists.read_parts.Given as goal

abbrev pub invariant-loop-item : goal.invariant-loop-item
invariant-loop-item g l = IsReadTo g.T.Part.is l.items l.item-index l.found.items
