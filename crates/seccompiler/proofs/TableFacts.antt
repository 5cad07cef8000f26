-- What holds of each architecture's table.
use Rattle.seccomp_tables.proofs.TableFacts.{each_table}
use Rattle.seccompiler.specs.Architecture.{table_of}
use Rattle.seccompiler.specs.SyscallTable.{IsCallTable}
use Rattle.seccompiler.specs.declared.backend.TargetArch.{TargetArch}
use Rattle.seccompiler.specs.declared.backend.TargetArch.TheVariants.{x86_64}

-- The second clause stands for every other architecture.
pub is_call_table : (arch : TargetArch) → IsCallTable (table_of arch)
is_call_table x86_64 = search each_table
is_call_table _ = search each_table
