use Rattle.std.proofs.Common.{List, subst, ℕ}
use Rattle.seccomp_answers.proofs.layers.program_of.Goals as goal
use Rattle.seccomp_answers.specs.Causes.{of_layer}
use Rattle.seccomp_answers.specs.Sides.{IsSideOf}

pub returns-in-Ok-clause-program : goal.returns-in-Ok-clause-program
returns-in-Ok-clause-program c =
    let reading = c.args.reading.now in
    let filter = c.args.layer.now.filter in
    record {
      side = c.in_ok-side.side;
      of_layer = subst (λ (text : List ℕ). IsSideOf reading filter text c.in_ok-side.side) c.deref.ensures.value c.in_ok-side.ensures;
      is = c.in-Ok.ensures.ruled;
    }

pub returns-in-Err-clause-cause : goal.returns-in-Err-clause-cause
returns-in-Err-clause-cause c =
    let reading = c.args.reading.now in
    let filter = c.args.layer.now.filter in
    of_layer c.in_ok-side.side
    (subst (λ (text : List ℕ). IsSideOf reading filter text c.in_ok-side.side) c.deref.ensures.value c.in_ok-side.ensures) c.in-Err.error
    c.in-Err.ensures.cause c.at_path.ensures
