use Rattle.std.proofs.Common.{string_bytes}
use Rattle.std.proofs.lemmas.List.{map_push}
use Rattle.seccomp_profiles.specs.Shape.{IsText}
use Rattle.seccomp_profiles.proofs.lists.ReadLists.{goes_on, fails, ends}
use Rattle.seccomp_profiles.proofs.lists.read_texts.Goals as goal

pub returns-in-None-clause-none : goal.returns-in-None-clause-none
returns-in-None-clause-none c =
    fails IsText _ _ _ _ c.loop-item.invariant c.loop-item-test.true c.item-item.is (rw c.in-None.is at c.in_ok-text.ensures.none)

pub loop-item-preserved : goal.loop-item-preserved
loop-item-preserved c = rw (c.in_ok-push-in-Some.ensures.items, map_push string_bytes c.loop-item.found.items c.in-Some.text)
    (goes_on IsText _ _ _ _ _ c.loop-item.invariant c.loop-item-test.true c.item-item.is (rw c.in-Some.is at c.in_ok-text.ensures.found))

pub returns-clause-found : goal.returns-clause-found
returns-clause-found c = ends IsText _ _ _ c.loop-item.invariant c.loop-item-test.false
