use Rattle.std.proofs.Common.{refl}
use Rattle.seccomp_tables.specs.Tables.{x86_64_pairs}
use Rattle.seccomp_tables.proofs.TableFacts.{x86_64_table}
use Rattle.seccomp_tables.proofs.x86_64_numbers.Goals as goal

pub returns-clause-numbers : goal.returns-clause-numbers
unfolding x86_64_pairs
returns-clause-numbers c = refl

pub returns-clause-table : goal.returns-clause-table
returns-clause-table c = x86_64_table
