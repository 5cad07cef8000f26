use Rattle.std.proofs.Common.{w64, rules}
use Rattle.std.proofs.lemmas.Int.{to_z-of_z}
use Rattle.seccompiler.specs.Machine.{IsChecked}
use Rattle.seccompiler_c.specs.Decisions.{returned, Returns}
use Rattle.seccompiler_c.proofs.seccompiler_run.Goals as goal

pub returns : goal.returns
returns c =
    let checked : IsChecked c.args.program.now = search rules in
    let word = c.run.result.word in
    let ran : Returns c.args.program.now c.args.call.now word = record {
      steps = c.run.result.steps;
      ends = c.run.ensures.ends;
      few = c.run.ensures.steps;
      only = c.run.ensures.only;
    } in
    rw (to_z-of_z w64 c.from.result (record { sfits = c.from.type_inv })) (record { answers = returned word checked ran c.from.ensures })
