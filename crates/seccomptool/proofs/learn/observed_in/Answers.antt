use Rattle.seccomptool.proofs.Common.{[], ◌++◌, ◌∙◌, List, Observation, Trace, ap, flat_map, flat_map_more, get_or, sym, take, take_more}
use Rattle.seccomptool.proofs.learn.observed_in.Goals as goal

pub loop-trace-preserved : goal.loop-trace-preserved
loop-trace-preserved c =
    let own = λ (trace : Trace). trace.observed.items in
    let traces = c.args.traces.now in
    let at = c.loop-trace.trace-index in
    let item = c.trace-item.result in
    c.in_ok-extend_from_slice.ensures.items
    ∙ ap (λ (more : List Observation). c.loop-trace.observed.items ++ more) (c.deref.ensures.value ∙ ap own c.trace-item.is)
    ∙ ap (λ (front : List Observation). front ++ own (get_or traces at item)) c.loop-trace.invariant
    ∙ flat_map_more own [] (take at traces) (get_or traces at item)
    ∙ ap (flat_map own) (sym (take_more traces at item c.loop-trace-test.true))
