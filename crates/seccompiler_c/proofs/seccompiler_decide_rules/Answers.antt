use Rattle.std.proofs.Common.{w64}
use Rattle.std.proofs.lemmas.Int.{to_z-of_z}
use Rattle.seccompiler_c.specs.ArraysDecisions.{undecided}
use Rattle.seccompiler_c.proofs.seccompiler_decide_rules.Goals as goal

pub returns-in-Err : goal.returns-in-Err
returns-in-Err c =
    let code = c.number in
    rw (to_z-of_z w64 code.result (record { sfits = code.type_inv }))
    (record { answers = undecided c.in-Err.fault c.in-Err.ensures.refused code.ensures })
