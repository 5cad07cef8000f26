use Rattle.std.proofs.Common.{w64}
use Rattle.std.proofs.lemmas.Int.{to_z-of_z}
use Rattle.seccompiler_c.specs.Decisions.{undecided}
use Rattle.seccompiler_c.proofs.seccompiler_decide.Goals as goal

pub returns-in-Err : goal.returns-in-Err
returns-in-Err c =
    let code = c.number in
    rw (to_z-of_z w64 code.result (record { sfits = code.type_inv }))
    (record { answers = undecided c.in-Err.fault c.in-Err.ensures.undecided code.ensures c.tell_policy.ensures })
