use Rattle.std.proofs.Common.{◌<◌, ◌≤◌, arith}
use Rattle.std.proofs.lemmas.Bool.{false≢true}
use Rattle.std.proofs.lemmas.Result.{err_from_is_err_and}
use Rattle.seccompc.proofs.probe.Faults.{name_is_probe, index_refused}
use Rattle.seccompc.proofs.probe.probe_filter.Goals as goal

pub returns-in_err-arch-clause-refused : goal.returns-in_err-arch-clause-refused
returns-in_err-arch-clause-refused c =
    let error = err_from_is_err_and c.from_residual.result c.from_residual.ensures.1 in
    rw (error.1, error.2) (name_is_probe c.args.arch.now c.args.nr c.args.index c.in_err-arch.field-0.0 c.in_err-arch.ensures.refused)

pub returns-in_err-condition-clause-refused : goal.returns-in_err-condition-clause-refused
returns-in_err-condition-clause-refused c =
    let error = err_from_is_err_and c.from_residual-in_err-condition.result c.from_residual-in_err-condition.ensures.1 in
    let above_all : c.args.index ≤ 5 → ⊥ = λ low. false≢true (c.in_err-condition.ensures.succeeds.1 low) in
    let above : 5 < c.args.index = omega arith in
    let refused = index_refused c.args.arch.now c.args.nr c.args.index c.in_ok-arch.arch c.in_ok-arch.ensures.named above in
    rw (error.1, error.2, c.in_err-condition.ensures.refused) refused
