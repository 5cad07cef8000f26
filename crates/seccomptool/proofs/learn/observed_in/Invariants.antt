use Rattle.seccomptool.proofs.Common.{◌≡◌, Trace, flat_map, take}
use Rattle.seccomptool.proofs.learn.observed_in.Given as goal

abbrev pub invariant-loop-trace : goal.invariant-loop-trace
invariant-loop-trace l = l.observed.items ≡ flat_map (λ (trace : Trace). trace.observed.items) (take l.trace-index l.traces)
