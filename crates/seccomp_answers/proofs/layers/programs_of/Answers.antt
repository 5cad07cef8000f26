use Rattle.std.proofs.Common.{◌≡◌, Global, Some, Vec, slice_get, subst, sym}
use Rattle.std.proofs.lemmas.List.Elements.{All-push}
use Rattle.std.proofs.lemmas.Option.{slice_get-get_or}
use Rattle.std.proofs.lemmas.Result.{err_from_is_err_and}
use Rattle.seccomp_compare.specs.Machine.{IsChecked}
use Rattle.seccompiler.specs.declared.bpf.sock_filter.{sock_filter}
use Rattle.seccomp_answers.specs.declared.layers.Layer.{Layer}
use Rattle.seccomp_answers.proofs.Pairs.{one_more}
use Rattle.seccomp_answers.proofs.layers.programs_of.Goals as goal
use Rattle.seccomp_answers.specs.Causes.{of_first}
use Rattle.seccomp_answers.specs.Layers.{IsLayer}

pub loop-layer-preserved : goal.loop-layer-preserved
loop-layer-preserved c =
    let l = c.loop-layer in
    let layers = c.args.layers.now in
    let p = c.in_ok-program_of.field-0 in
    rw c.in_ok-push.ensures.items (
      one_more (IsLayer c.args.target c.args.reading.now) layers l.programs.items l.layer-index _ p c.loop-layer-test.true l.invariant.0
          (subst (λ (layer : Layer). IsLayer c.args.target c.args.reading.now layer p) c.layer-item.is c.in_ok-program_of.ensures.program),
      All-push (λ (q : Vec sock_filter Global). IsChecked q.items) l.programs.items p l.invariant.1 c.in_ok-program_of.ensures.checked,
    )

pub returns-in_err-program_of-clause-cause : goal.returns-in_err-program_of-clause-cause
returns-in_err-program_of-clause-cause c =
    let l = c.loop-layer in
    let layers = c.args.layers.now in
    let error = err_from_is_err_and c.from_residual.result c.from_residual.ensures.1 in
    let here = subst (λ (layer : Layer). slice_get layers l.layer-index ≡ Some layer) (sym c.layer-item.is)
    (slice_get-get_or layers l.layer-index _ c.loop-layer-test.true) in
    rw (error.1, error.2) (of_first l.layer-index c.layer-item.result here l.programs.items l.invariant.0 c.in_err-program_of.ensures.cause)
