use Rattle.std.proofs.Common.{refl}
use Rattle.seccomp_tables.specs.Tables.{aarch64_pairs}
use Rattle.seccomp_tables.proofs.TableFacts.{aarch64_table}
use Rattle.seccomp_tables.proofs.aarch64_numbers.Goals as goal

pub returns-clause-numbers : goal.returns-clause-numbers
unfolding aarch64_pairs
returns-clause-numbers c = refl

pub returns-clause-table : goal.returns-clause-table
returns-clause-table c = aarch64_table
