use Rattle.seccomp_answers.proofs.findings.Ending.{same_found}
use Rattle.std.proofs.Common.{arith}
use Rattle.std.proofs.lemmas.Grind.{common_steps}
use Rattle.seccomp_answers.proofs.findings.answer_on.Goals as goal

pub returns-then-is_same : goal.returns-then-is_same
returns-then-is_same g c =
    same_found c.args.terms.target c.args.terms.relation c.args.part c.args.new.now c.args.old.now c.requires.new_checked
    (c.requires.same c.if-is_same.true)

pub loop-call-preserved : goal.loop-call-preserved
loop-call-preserved c = grind (arith, common_steps)
