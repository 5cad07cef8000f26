use Rattle.std.proofs.Common.{w64}
use Rattle.std.proofs.lemmas.Int.{to_z-of_z}
use Rattle.std.proofs.lemmas.Result.{err_from_is_err_and}
use Rattle.seccompc.proofs.probe.Faults.{filter_refused, filter_compiled}
use Rattle.seccompc.proofs.probe.program_of.Goals as goal

pub returns-in_err-to_bpf-clause-refused : goal.returns-in_err-to_bpf-clause-refused
returns-in_err-to_bpf-clause-refused c =
    let nr = c.args.nr in
    let filter = c.in_ok-probe_filter.field-0 in
    let made = rw (to_z-of_z w64 nr c.ranges.nr) at c.in_ok-probe_filter.ensures.made in
    let error = err_from_is_err_and c.from_residual-in_err-to_bpf.result c.from_residual-in_err-to_bpf.ensures.1 in
    rw (error.1, error.2)
    (filter_refused c.args.arch.now nr c.args.index c.args.value filter c.in_err-to_bpf.field-0.0 made c.in_err-to_bpf.ensures.refused)

pub returns-clause-compiled : goal.returns-clause-compiled
returns-clause-compiled c =
    let nr = c.args.nr in
    let filter = c.in_ok-probe_filter.field-0 in
    let made = rw (to_z-of_z w64 nr c.ranges.nr) at c.in_ok-probe_filter.ensures.made in
    let of = c.in_ok-to_bpf.ensures in
    filter_compiled c.args.arch.now nr c.args.index c.args.value filter c.in_ok-to_bpf.field-0.items made of.compilable of.compiled
