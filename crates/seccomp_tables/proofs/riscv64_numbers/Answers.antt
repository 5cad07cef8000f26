use Rattle.std.proofs.Common.{refl}
use Rattle.seccomp_tables.specs.Tables.{riscv64_pairs}
use Rattle.seccomp_tables.proofs.TableFacts.{riscv64_table}
use Rattle.seccomp_tables.proofs.riscv64_numbers.Goals as goal

pub returns-clause-numbers : goal.returns-clause-numbers
unfolding riscv64_pairs
returns-clause-numbers c = refl

pub returns-clause-table : goal.returns-clause-table
returns-clause-table c = riscv64_table
