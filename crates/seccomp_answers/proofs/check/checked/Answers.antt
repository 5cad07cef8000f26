use Rattle.seccomp_answers.proofs.Causes.{told_refusal}
use Rattle.seccomp_answers.proofs.check.checked.Goals as goal

pub returns-in-Err-clause-refused : goal.returns-in-Err-clause-refused
returns-in-Err-clause-refused c =
    told_refusal c.args.target c.args.text.now c.in-Err.rejection c.told_whole.result c.in-Err.ensures.rejected c.told_whole.ensures
