use Rattle.std.proofs.Common.{◌∙◌, sym}
use Rattle.std.proofs.lemmas.Bool.{false≢true}
use Rattle.seccomp_warnings.proofs.evasion.is_let_through.Goals as goal

pub returns-clause-through : goal.returns-clause-through
returns-clause-through c = λ yes. (c.decided.result, c.decided.ensures, c.is_permitting.ensures.0 yes)

pub returns-clause-denied : goal.returns-clause-denied
returns-clause-denied c = λ no. (
  c.decided.result,
  c.decided.ensures,
  λ permits. false≢true (sym no ∙ c.is_permitting.ensures.1 permits),
)
