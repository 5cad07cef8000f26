use Rattle.std.proofs.Common.{subst, sym}
use Rattle.seccomp_compare.specs.Compare.{Related}
use Rattle.seccomp_answers.proofs.findings.answer_at.Goals as goal

pub returns : goal.returns
returns c =
    let relation = c.args.terms.relation in
    let known = c.requires.unrelated in
    let by_old = c.run-by_old.ensures.only known.other_steps known.other_word known.other_ends in
    let by_new = c.run-by_new.ensures.only known.steps known.word known.ends in (
      c.requires.within,
      record {
        new_steps = c.run-by_new.result.steps;
        new_ends = c.run-by_new.ensures.ends;
        old_steps = c.run-by_old.result.steps;
        old_ends = c.run-by_old.ensures.ends;
      },
      λ related. known.unrelated
          (subst (λ w. Related relation w known.other_word) (sym by_new.1)
          (subst (Related relation c.run-by_new.result.word) (sym by_old.1) related)),
      c.in_ok-throughout.ensures,
    )
