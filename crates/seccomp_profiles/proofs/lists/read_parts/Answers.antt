use Rattle.seccomp_profiles.proofs.lists.ReadLists.{goes_on, fails, ends}
use Rattle.seccomp_profiles.proofs.lists.read_parts.Goals as goal

pub returns-in-None-clause-none : goal.returns-in-None-clause-none
returns-in-None-clause-none g c =
    fails g.T.Part.is _ _ _ _ c.loop-item.invariant c.loop-item-test.true c.item-item.is (rw c.in-None.is at c.in_ok-part.ensures.none)

pub loop-item-preserved : goal.loop-item-preserved
loop-item-preserved g c = rw c.in_ok-push-in-Some.ensures.items (goes_on g.T.Part.is _ _ _ _ _ c.loop-item.invariant
    c.loop-item-test.true c.item-item.is (rw c.in-Some.is at c.in_ok-part.ensures.found))

pub returns-clause-found : goal.returns-clause-found
returns-clause-found g c = ends g.T.Part.is _ _ _ c.loop-item.invariant c.loop-item-test.false
