use Rattle.std.proofs.Common.{pos, refl}
use Rattle.seccompiler_c.specs.Decisions.{Decides}
use Rattle.seccompiler_c.proofs.arrays_program.ArraysRefusals.{found_so}
use Rattle.seccompiler_c.proofs.arrays_program.word_of_arrays.Goals as goal

pub returns-clause-word : goal.returns-clause-word
returns-clause-word c =
    let filter = c.in_ok-filter.filter in
    let layout = c.in_ok-filter.field-0-1 in
    let call = c.args.call.now in
    let made : Decides call (pos c.decide.result) filter = record {
      word = c.decide.result;
      told = refl;
      decision = c.decide.ensures.decision;
      only = c.decide.ensures.only;
      order = c.decide.ensures.order;
    } in
    found_so (record { chains = _; rules = _; conditions = _; words = _; capacity = 0 }) layout filter c.in_ok-filter.ensures.filter
    (λ l f. Decides call (pos c.decide.result) f) made
