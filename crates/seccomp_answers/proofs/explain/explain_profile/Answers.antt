use Rattle.std.proofs.Common.{ap, false, rules}
use Rattle.seccomp_entries.specs.Entries.{Lowered}
use Rattle.seccomp_profiles.specs.Abis.{machine_of}
use Rattle.seccomp_answers.proofs.explain.explain_profile.Goals as goal

pub returns-clause-explained : goal.returns-clause-explained
returns-clause-explained c = record {
  profile = c.in-Ok.profile;
  of_text = c.in-Ok.ensures.read;
  lowered = c.in_ok-lowered.lowered;
  is_lowered = c.in_ok-lowered.ensures.lowered;
  decides = c.in_ok-lowered.ensures.decides;
  default = search rules;
  entries = ap (λ (l : Lowered). l.entries) c.lowered.view_is;
  each = c.in_ok-records.ensures;
}

pub returns-in-Err-clause-cause : goal.returns-in-Err-clause-cause
returns-in-Err-clause-cause c = c.unread.ensures (machine_of c.args.abi) c.args.container.now false c.in-Err.ensures.fault
