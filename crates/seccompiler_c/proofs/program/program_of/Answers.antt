use Rattle.std.proofs.lemmas.Result.{err_from_is_err_and}
use Rattle.seccompiler_c.specs.Programs.{Request}
use Rattle.seccompiler_c.proofs.Programs.{no_program, uncompiled}
use Rattle.seccompiler_c.proofs.program.program_of.Goals as goal

pub returns-in_err-program-clause-refused : goal.returns-in_err-program-clause-refused
returns-in_err-program-clause-refused c =
    let error = err_from_is_err_and c.from_residual-in_err-program.result c.from_residual-in_err-program.ensures.1 in
    let layout = c.in-Some-layout_of.layout in
    let policy = c.in_ok-policy.policy in
    let request : Request = record {
      text = c.args.text.now;
      architecture = c.args.architecture;
      name = c.args.name.now;
      layout = c.args.layout;
      capacity = c.args.capacity;
    } in
    rw (error.1, error.2)
    (no_program request c.in-Some.target layout c.in-Some.ensures.found c.in-Some-layout_of.ensures.found policy
    c.in_ok-policy.ensures.policy _
    (uncompiled layout policy c.in_ok-policy.ensures.numbers c.in_err-program.field-0.0 c.in_err-program.ensures.refused))
