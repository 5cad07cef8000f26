use Rattle.std.proofs.Common.{◌≡◌, ◌<◌, ◌^◌, length, w64, refl, arith}
use Rattle.std.proofs.lemmas.Int.{to_z-of_z}
use Rattle.seccompiler_c.specs.ArraysPrograms.{ArraysRequest, compiled, refused}
use Rattle.seccompiler_c.specs.Programs.{Holds}
use Rattle.seccompiler_c.specs.declared.arrays_program.Words.{Words}
use Rattle.seccompiler_c.proofs.Programs.{holds}
use Rattle.seccompiler_c.proofs.arrays_program.ArraysRefusals.{arrays_program_so}
use Rattle.seccompiler_c.proofs.seccompiler_compile_rules.Goals as goal

pub returns-in-Ok : goal.returns-in-Ok
returns-in-Ok c =
    let old = c.args.program.now in
    let items = c.in-Ok.compiled.items in
    let n = c.len-count.result in
    let front = c.copy_from_slice.new.self in
    let count : n ≡ length items = cc in
    let same : front ≡ items = cc in
    let long : length c.deref.result.now ≡ n = cc in
    let small : n < 2 ^ 63 = omega (arith, long, c.deref.type_inv.1) in
    let words : Words = record {
      mismatch_kind = c.args.mismatch_kind;
      mismatch_data = c.args.mismatch_data;
      match_kind =
          c.args.match_kind;
      match_data = c.args.match_data;
      architecture = c.args.architecture;
      layout = c.args.layout;
    } in
    let request : ArraysRequest = record {
      chains = c.args.chains.now;
      rules = c.args.rules.now;
      conditions = c.args.conditions.now;
      words = words;
      capacity = length old;
    } in
    let written = holds old items front n count same c.in-Ok.ensures.fits small in
    record { answers = compiled (arrays_program_so request (λ program. program ≡ items) (Holds old _ _) written c.in-Ok.ensures.program) }

pub returns-in-Err : goal.returns-in-Err
returns-in-Err c = rw (to_z-of_z w64 c.number.result (record { sfits = c.number.type_inv })) (record {
  answers = refused c.in-Err.fault
      c.in-Err.ensures.refused c.number.ensures refl;
})
