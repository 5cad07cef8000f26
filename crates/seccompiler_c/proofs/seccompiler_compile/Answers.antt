use Rattle.std.proofs.Common.{◌≡◌, ◌<◌, ◌^◌, length, w64, refl, arith}
use Rattle.std.proofs.lemmas.Int.{to_z-of_z}
use Rattle.seccompiler_c.specs.Programs.{Request, compiled, refused, Holds}
use Rattle.seccompiler_c.proofs.Programs.{programs_so, holds}
use Rattle.seccompiler_c.proofs.seccompiler_compile.Goals as goal

pub returns-in-Ok : goal.returns-in-Ok
returns-in-Ok c =
    let old = c.args.program.now in
    let items = c.in-Ok.compiled.items in
    let n = c.len-count.result in
    let front = c.copy_from_slice.new.self in
    let count : n ≡ length items = cc in
    let same : front ≡ items = cc in
    let long : length c.deref.result.now ≡ n = cc in
    let small : n < 2 ^ 63 = omega (arith, long, c.deref.type_inv.1) in
    let request : Request = record {
      text = c.args.policy.now;
      architecture = c.args.architecture;
      name = c.args.name.now;
      layout = c.args.layout;
      capacity = length old;
    } in
    let written = holds old items front n count same c.in-Ok.ensures.fits small in
    let program = programs_so request (λ program. program ≡ items) (Holds old _ _) written c.in-Ok.ensures.program in
    record { answers = compiled program c.write_message.ensures }

pub returns-in-Err : goal.returns-in-Err
returns-in-Err c =
    let code = c.number in
    rw (to_z-of_z w64 code.result (record { sfits = code.type_inv }))
    (record { answers = refused c.in-Err.fault c.in-Err.ensures.refused code.ensures refl c.tell_policy.ensures })
