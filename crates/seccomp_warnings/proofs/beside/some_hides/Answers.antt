use Rattle.std.proofs.Common.{List, map, rules, tests}
use Rattle.std.proofs.lemmas.Iterator.{cases_from_any}
use Rattle.std.proofs.lemmas.Iterator.Consumers.{YieldsList-from_rest}
use Rattle.seccompiler.specs.JsonTypes.{JsonFilter}
use Rattle.seccomp_warnings.specs.Beside.{HidesClone3}
use Rattle.seccomp_warnings.proofs.Listed.{some_of}
use Rattle.seccomp_warnings.proofs.beside.some_hides.Goals as goal

pub returns : goal.returns
returns c =
    let filters : List JsonFilter = map (λ named. named.1) c.args.filters.now.0.entries in
    some_of HidesClone3 filters c.any.result (cases_from_any _ _ _ HidesClone3 (λ f. HidesClone3 f → ⊥) c.any.ensures.ran
    (YieldsList-from_rest filters c.values.ensures.rest) (λ y b k. search (rules, tests)) (λ y b k. search (rules, tests)))
