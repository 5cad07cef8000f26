use Rattle.std.proofs.Common.{arith}
use Rattle.std.proofs.lemmas.Bool.Decides.{nat_tests}
use Rattle.seccomp_answers.proofs.profile.faulty.Goals as goal

pub returns : goal.returns
returns c = λ target container strict fault. record {
  value = fault.0;
  is_read = fault.1;
  is_none = fault.2;
  placed = c.in-Ok.ensures fault.0 fault.1;
  there = grind (arith, nat_tests, c.in-Ok.faults.ok.0);
}
