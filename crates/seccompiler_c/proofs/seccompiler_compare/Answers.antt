use Rattle.std.proofs.Common.{w64, refl}
use Rattle.std.proofs.lemmas.Int.{to_z-of_z}
use Rattle.seccompiler_c.specs.Comparisons.{uncompared}
use Rattle.seccompiler_c.proofs.seccompiler_compare.Goals as goal

pub returns-in-Err : goal.returns-in-Err
returns-in-Err c =
    let code = c.number in
    rw (to_z-of_z w64 code.result (record { sfits = code.type_inv }))
    (record { answers = uncompared c.in-Err.code c.in-Err.ensures.uncompared code.ensures.number refl })
