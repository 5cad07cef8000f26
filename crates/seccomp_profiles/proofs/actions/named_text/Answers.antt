use Rattle.seccomp_profiles.proofs.actions.Numbers.{none_of_text}
use Rattle.seccomp_profiles.proofs.actions.named_text.Goals as goal

pub returns-in-None-clause-none : goal.returns-in-None-clause-none
returns-in-None-clause-none c =
    none_of_text c.args.text.now c.is_empty.result c.is_empty.ensures c.if-is_empty.false c.in-None.ensures.none
