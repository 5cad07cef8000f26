use Rattle.std.proofs.lemmas.Result.{err_from_is_err_and}
use Rattle.seccompiler.proofs.json.parts.OneFilter.{one_filter}
use Rattle.seccompiler.proofs.json.texts.filters_of.Goals as goal

pub returns-in_err-value : goal.returns-in_err-value
returns-in_err-value c = let p = err_from_is_err_and c.from_residual.result c.from_residual.ensures.1 in
    let told = c.in_err-value.ensures in
    rw (p.1, p.2)
    (record { filters = tt; read_back = tt; fault = told.0; cause = told.1; no_reader = told.2; memory = told.3; one_filter = one_filter })

pub returns-clause-one_filter : goal.returns-clause-one_filter
returns-clause-one_filter c = one_filter
