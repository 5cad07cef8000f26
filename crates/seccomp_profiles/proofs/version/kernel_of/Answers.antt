use Rattle.std.proofs.Common.{sym, subst, lit<}
use Rattle.seccomp_profiles.specs.Version.{IsNumberText}
use Rattle.seccomp_profiles.proofs.lists.ReadLists.{unless_some}
use Rattle.seccomp_profiles.proofs.version.kernel_of.Goals as goal

pub returns-in_default-number_of-clause-none : goal.returns-in_default-number_of-clause-none
returns-in_default-number_of-clause-none c = λ k is.
    unless_some _ c.in_default-number_of.not-Some c.number_of.ensures.none k.major
    (subst (λ text. IsNumberText text k.major) (sym (c.in-Some.ensures.byte (lit< tt) (λ w o finds. finds)).0) is.major)
