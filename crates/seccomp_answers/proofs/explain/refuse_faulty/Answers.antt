use Rattle.seccomp_answers.proofs.Causes.{told_refusal}
use Rattle.seccomp_answers.proofs.explain.refuse_faulty.Goals as goal

pub returns-in-Err : goal.returns-in-Err
returns-in-Err c =
    told_refusal c.args.target c.args.text.now c.in-Err.rejection c.rejected.result c.in-Err.ensures.rejected c.rejected.ensures
