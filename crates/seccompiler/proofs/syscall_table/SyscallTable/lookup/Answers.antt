use Rattle.std.proofs.Common.{IfSome, refl, subst, sym}
use Rattle.seccompiler.specs.Architecture.{table_of}
use Rattle.seccompiler.specs.SyscallTable.{IsTableNumber}
use Rattle.seccompiler.proofs.TableFacts.{is_call_table}
use Rattle.seccompiler.proofs.TableNames.{found_first, found_nowhere, number_of-all}
use Rattle.seccompiler.proofs.syscall_table.HalvingOnly.{compares_only}
use Rattle.seccompiler.proofs.syscall_table.SyscallTable.lookup.Goals as goal

pub returns : goal.returns
returns c =
    let table = table_of c.args.self.now in
    let name = c.args.name.now in
    let found = c.find.ensures in
    record {
      number = found.number;
      found = found_first table name _ found.number;
      not_found = found_nowhere table name _ found.number;
      in_range = subst (λ number. IfSome number IsTableNumber) (sym found.number)
          (number_of-all IsTableNumber table name (is_call_table c.args.self.now).in_range);
      compared = found.compared;
      only = λ n compares. compares_only name compares found.compared refl;
      few = found.few;
      missed = found.missed;
    }
