use Rattle.std.proofs.Common.{◌∷◌, [], ◌∙◌, subst}
use Rattle.seccomp_compare.specs.Compare.{Compares}
use Rattle.seccomp_compare.specs.declared.Relation.TheVariants.{Alike}
use Rattle.seccomp_compare.specs.Machine.{Ends}
use Rattle.seccomp_answers.proofs.findings.Returned.{return_checked, return_ends, the_return}
use Rattle.seccomp_answers.proofs.findings.returns.Goals as goal

pub compare-requires-clause-q_checked : goal.compare-requires-clause-q_checked
compare-requires-clause-q_checked c = return_checked c.args.word c.ranges.word.fits

pub returns-in-Ok : goal.returns-in-Ok
returns-in-Ok c = λ true r own.
    let program = c.args.program.now in
    let only = the_return c.args.word ∷ [] in
    let holds = subst (Compares c.calls_of-calls.result Alike program only) (c.does_hold.ensures true) c.in-Ok.ensures.compares in
    let answers = holds r ((c.calls_of-calls.ensures r).1 own) in
    let word = return_ends r c.args.word answers.other_steps answers.other_word answers.other_ends in
    (answers.steps, subst (Ends c.args.program.now r answers.steps) (answers.related ∙ word) answers.ends)
