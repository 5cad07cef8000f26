use Rattle.std.proofs.Common.{rules}
use Rattle.seccomp_profiles.proofs.parts.read_argument.Goals as goal

pub returns-clause-found : goal.returns-clause-found
returns-clause-found c = record {
  names = search rules;
  index = search rules;
  value = search rules;
  value_two = search rules;
  operator = search rules;
}
