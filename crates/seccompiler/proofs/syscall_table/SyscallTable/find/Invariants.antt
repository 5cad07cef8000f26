use Rattle.std.proofs.Common.{◌-◌, ◌≤◌, length}
use Rattle.seccompiler.specs.Architecture.{table_of}
use Rattle.seccompiler.proofs.syscall_table.Halving.{IsHalf, between}
use Rattle.seccompiler.proofs.syscall_table.SyscallTable.find.Given as goal

-- what so many comparisons left of the table
abbrev pub invariant-loop-start : goal.invariant-loop-start
invariant-loop-start l = record {
  half : IsHalf (table_of l.self) l.name l.compared (between (table_of l.self) l.start l.end);
  ordered : l.start ≤ l.end;
  within : l.end ≤ length (table_of l.self);
}

abbrev pub decreases-loop-start : goal.decreases-loop-start
decreases-loop-start l = l.end - l.start
