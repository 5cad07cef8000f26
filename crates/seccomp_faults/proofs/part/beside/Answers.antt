use Rattle.std.proofs.Common.{refl, subst}
use Rattle.seccomp_faults.specs.Faults.{IsGiven, NamesNone}
use Rattle.seccomp_faults.proofs.part.beside.Goals as goal

pub returns : goal.returns
returns c = λ target outer there. (
  c.args.action.now,
  there,
  subst NamesNone c.get.ensures (c.if-not-takes_none.ensures refl),
  subst IsGiven c.get-else-not-takes_none.ensures (c.if-not-is_given.ensures refl),
)
