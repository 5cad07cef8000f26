use Rattle.seccomp_answers.proofs.check.profile_checked.Goals as goal

pub returns-clause-checked : goal.returns-clause-checked
returns-clause-checked c = record {
  compiled = c.in_ok-compiled.ensures.compiled;
  warnings = c.in-Ok.ensures;
}
