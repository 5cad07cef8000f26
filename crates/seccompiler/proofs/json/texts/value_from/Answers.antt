use Rattle.std.proofs.lemmas.Result.{MatchResult-weaker, err_from_is_err_and}
use Rattle.seccompiler.proofs.TextFilters.{reads_some}
use Rattle.seccompiler.proofs.json.texts.value_from.Goals as goal

pub returns-in_err-text-clause-fault : goal.returns-in_err-text-clause-fault
returns-in_err-text-clause-fault g c =
    let p = err_from_is_err_and c.from_residual.result c.from_residual.ensures.1 in
    rw (p.1, p.2) (reads_some (g.R.Read.remaining c.args.reader) _ (λ text arch. c.in_err-text.ensures.fault arch text))

pub returns-clause-fault : goal.returns-clause-fault
returns-clause-fault g c = MatchResult-weaker c.value_of.result (rw c.as_slice.ensures.value at c.value_of.ensures) (λ value is. tt)
    (λ e told. (c.in_ok-text.text.items, c.in_ok-text.ensures.text, told.0))
