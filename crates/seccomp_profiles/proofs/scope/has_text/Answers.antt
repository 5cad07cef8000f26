use Rattle.seccomp_profiles.proofs.scope.Tests.{contains_tested}
use Rattle.seccomp_profiles.proofs.scope.has_text.Goals as goal

pub returns : goal.returns
returns c = contains_tested _ _ _ c.is_listed.ensures
