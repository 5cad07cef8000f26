-- For `traces_of`: one more of those that are read as traces.
use Rattle.seccomptool.proofs.Common.{[], ◌++◌, ◌+◌, ◌<◌, ◌∷◌, ◌≡◌, AllZip, Layer, Learn, List, Trace, all_zipped_more, get_or, length}
use Rattle.seccomptool.proofs.Common.{take, take_more, ℕ}
use Rattle.seccomptool.specs.Learn.{IsTraceOf, TraceReading}

pub trace_more : (reads : TraceReading) (asked : Learn) (traced : List Layer) (at : ℕ) (d : Layer) (all new : List Trace) (trace : Trace)
    → at < length traced → AllZip (IsTraceOf reads asked) (take at traced) all → IsTraceOf reads asked (get_or traced at d) trace
    → new ≡ all ++ trace ∷ [] → AllZip (IsTraceOf reads asked) (take (at + 1) traced) new
trace_more reads asked traced at d all new trace room so_far own is =
    rw (is, take_more traced at d room) (all_zipped_more (IsTraceOf reads asked) (take at traced) all (get_or traced at d) trace so_far own)
