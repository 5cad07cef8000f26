use Rattle.std.proofs.Common.{w64, rules}
use Rattle.std.proofs.lemmas.Int.{to_z-of_z}
use mir.Val.{SFits}
use Rattle.std.specs.Prelude.{⊤}
use Rattle.seccompiler.specs.declared.backend.TargetArch.TheVariants.{x86_64}
use Rattle.seccompiler_c.specs.Names.{named, unnamed}
use Rattle.seccompiler_c.proofs.text.Places.{told_on}
use Rattle.seccompiler_c.proofs.seccompiler_filter_names.Goals as goal

pub returns-in-Ok : goal.returns-in-Ok
returns-in-Ok c =
    let told = c.in-Ok.ensures.named in
    let fits : SFits w64 c.in-Ok.length = search rules in
    rw (to_z-of_z w64 c.in-Ok.length fits) (record { answers = named told.0 told.1 told.2 told.3 c.write_message.ensures })

pub returns-in-Err : goal.returns-in-Err
returns-in-Err c =
    let code = c.number in
    let fault = c.in-Err.fault in
    let told = told_on c.args.policy.now fault c.args.message.now c.tell_place.new.message (λ target. ⊤) x86_64 tt c.tell_place.ensures in
    rw (to_z-of_z w64 code.result (record { sfits = code.type_inv }))
    (record { answers = unnamed fault c.in-Err.ensures.unnamed code.ensures c.in-Err.ensures.left told })
