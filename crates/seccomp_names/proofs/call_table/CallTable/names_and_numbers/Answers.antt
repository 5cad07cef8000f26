use Rattle.std.proofs.Common.{sym, ap}
use Rattle.seccomp_names.specs.CallTables.{pairs_of}
use Rattle.seccomp_names.proofs.call_table.CallTable.names_and_numbers.Goals as goal

pub returns-in-I386 : goal.returns-in-I386
unfolding pairs_of
returns-in-I386 c = ap pairs_of (sym c.in-I386.is)

pub returns-in-X32 : goal.returns-in-X32
unfolding pairs_of
returns-in-X32 c = ap pairs_of (sym c.in-X32.is)

pub returns-in-Socketcall : goal.returns-in-Socketcall
unfolding pairs_of
returns-in-Socketcall c = ap pairs_of (sym c.in-Socketcall.is)

pub returns-in-Ipc : goal.returns-in-Ipc
unfolding pairs_of
returns-in-Ipc c = ap pairs_of (sym c.in-Ipc.is)
