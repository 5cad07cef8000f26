use Rattle.std.proofs.Common.{map, sym, subst}
use Rattle.std.proofs.lemmas.Result.{err_from_is_err_and}
use Rattle.seccompiler.specs.Policy.{Filter}
use Rattle.seccompiler.specs.Compiled.{AreCallNumbers, numbers_of}
use Rattle.seccompiler_c.specs.Arrays.{condition_of, cut_rules}
use Rattle.seccompiler_c.proofs.arrays_program.ArraysRefusals.{unmet_refused, call_numbers}
use Rattle.seccompiler_c.proofs.arrays_program.filter_in_layout.Goals as goal

pub returns-in_err-check_demands-clause-refused : goal.returns-in_err-check_demands-clause-refused
returns-in_err-check_demands-clause-refused c =
    let error = err_from_is_err_and c.from_residual-in_err-check_demands.result c.from_residual-in_err-check_demands.ensures.1 in
    rw (error.1, error.2) (unmet_refused (record { chains = _; rules = _; conditions = _; words = _; capacity = 0 })
    c.in_ok-named.named c.in_ok-named.ensures.named c.in_err-check_demands.field-0.0 c.in_err-check_demands.ensures.unmet)

pub returns-clause-numbers : goal.returns-clause-numbers
returns-clause-numbers c =
    let numbers = call_numbers c.args.chains.now (cut_rules c.args.rules.now (map condition_of c.args.conditions.now))
    c.in_ok-check_demands.ensures.met.numbers in
    subst (λ (f : Filter). AreCallNumbers (numbers_of f.chains)) (sym c.in_ok-filter.ensures.made) numbers
