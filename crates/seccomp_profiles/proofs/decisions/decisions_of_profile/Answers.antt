use Rattle.seccomp_profiles.proofs.decisions.decisions_of_profile.Goals as goal

pub returns-clause-own : goal.returns-clause-own
returns-clause-own c = record {
  lowered = c.in_ok-lowered.lowered;
  is_lowered = c.in_ok-lowered.ensures.lowered;
  are = c.in_ok-decisions.ensures.own;
}

pub returns-clause-decide : goal.returns-clause-decide
returns-clause-decide c = record {
  decide = λ r w is. c.in_ok-lowered.ensures.decides.decides r w (c.in_ok-decisions.ensures.decide r w is);
}
