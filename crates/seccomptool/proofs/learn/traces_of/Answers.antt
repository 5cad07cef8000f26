use Rattle.seccomptool.proofs.Common.{◌∙◌, Layer, List, ap, err_from_is_err_and, inr, subst, ℕ}
use Rattle.seccomptool.specs.Learn.{IsStrangeOf}
use Rattle.seccomptool.proofs.Wanted.{some_has}
use Rattle.seccomptool.proofs.Traces.{trace_more}
use Rattle.seccomptool.proofs.learn.traces_of.Goals as goal

pub loop-input-preserved : goal.loop-input-preserved
loop-input-preserved g c =
    let text = c.deref.ensures.value ∙ ap (λ (layer : Layer). layer.text.items) c.input-item.is in
    trace_more g.O.Outside.reads c.args.asked.now c.args.traced.now c.loop-input.input-index c.input-item.result c.loop-input.traces.items
    c.push.new.self.items _ c.loop-input-test.true c.loop-input.invariant (record {
      read = subst (λ (bytes : List ℕ). g.O.Outside.reads c.args.asked.now.arch bytes c.in_ok-trace.trace) text c.in_ok-trace.ensures;
      understood = c.in_ok-refuse_trace.ensures.understood;
    }) c.in_ok-push.ensures.items

pub returns-in_err-refuse_trace-clause-cause : goal.returns-in_err-refuse_trace-clause-cause
returns-in_err-refuse_trace-clause-cause g c =
    let text = c.deref.ensures.value ∙ ap (λ (layer : Layer). layer.text.items) c.input-item.is in
    let at = c.from_residual-in_err-refuse_trace in
    let error = err_from_is_err_and at.result at.ensures.1 in
    let own = c.in_err-refuse_trace.field-0.0 in
    rw (error.1, error.2) (inr (some_has (IsStrangeOf g.O.Outside.reads c.args.asked.now own) c.args.traced.now c.loop-input.input-index
    c.input-item.result c.loop-input-test.true (
      c.in_ok-trace.trace,
      subst (λ (bytes : List ℕ). g.O.Outside.reads c.args.asked.now.arch bytes c.in_ok-trace.trace) text c.in_ok-trace.ensures,
      c.in_err-refuse_trace.ensures.cause,
    )))
