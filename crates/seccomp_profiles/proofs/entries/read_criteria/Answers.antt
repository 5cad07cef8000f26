use Rattle.std.proofs.Common.{sym, subst}
use Rattle.seccomp_profiles.specs.Shape.{IsListed, IsText}
use Rattle.seccomp_profiles.proofs.lists.ReadLists.{unless_some}
use Rattle.seccomp_profiles.proofs.entries.read_criteria.Goals as goal

pub returns-in_default-clause-none : goal.returns-in_default-clause-none
returns-in_default-clause-none c = λ e h. unless_some _ c.in_default.not-Some c.in_ok-caps.ensures.none e.caps
    (subst (λ o. IsListed IsText o e.caps) (sym c.get.ensures) h.caps)

pub returns-in_default-2-clause-none : goal.returns-in_default-2-clause-none
returns-in_default-2-clause-none c = λ e h. unless_some _ c.in_default-2.not-Some c.in_ok-arches.ensures.none e.arches
    (subst (λ o. IsListed IsText o e.arches) (sym c.get-2.ensures) h.arches)
