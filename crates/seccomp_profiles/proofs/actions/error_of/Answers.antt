use Rattle.seccomp_profiles.proofs.actions.Numbers.{none_named}
use Rattle.seccomp_profiles.proofs.actions.error_of.Goals as goal

pub returns-in_err-number-clause-none : goal.returns-in_err-number-clause-none
returns-in_err-number-clause-none c = rw c.from_residual.ensures
    (none_named c.args.text.now c.error_number.result c.error_number.ensures c.in_default.not-Some c.in_err-number.ensures.none)
