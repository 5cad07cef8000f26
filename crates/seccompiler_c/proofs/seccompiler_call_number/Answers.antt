use Rattle.std.proofs.Common.{w64, subst}
use Rattle.std.proofs.lemmas.Int.{to_z-of_z}
use Rattle.seccompiler.specs.Architecture.{table_of}
use Rattle.seccompiler.specs.SyscallTable.{IsCallTable}
use Rattle.seccompiler_c.specs.Calls.{unknown_call}
use Rattle.seccompiler_c.proofs.TableNames.{no_call}
use Rattle.seccompiler_c.proofs.seccompiler_call_number.Goals as goal

pub returns-in_default-from_utf8 : goal.returns-in_default-from_utf8
returns-in_default-from_utf8 c =
    let table = subst (λ t. IsCallTable (table_of t)) c.new-table.ensures.arch c.new-table.ensures.table in
    let code = c.number-in_default-from_utf8 in
    let target = c.in-Some.target in
    rw (to_z-of_z w64 code.result (record { sfits = code.type_inv }))
    (record {
      answers = unknown_call
          (target, c.in-Some.ensures.found, no_call (table_of target) c.args.name.now table c.in_default-from_utf8.ensures.cases.0)
          code.ensures.number;
    })
