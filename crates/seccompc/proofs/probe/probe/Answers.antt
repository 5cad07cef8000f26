use Rattle.std.proofs.Common.{w64}
use Rattle.std.proofs.lemmas.Int.{to_z-of_z}
use Rattle.std.proofs.lemmas.Result.{err_from_is_err_and}
use Rattle.seccompc.proofs.Answers.{refused_before, told_of_records}
use Rattle.seccompc.specs.Lines.{AreLines}
use Rattle.seccompc.specs.Probe.{IsProbeFaultless, IsProbed, IsRefusedProbe}
use Rattle.seccompc.proofs.probe.probe.Goals as goal

pub returns-in_err-program-clause-answers : goal.returns-in_err-program-clause-answers
returns-in_err-program-clause-answers g c =
    let error = err_from_is_err_and c.from_residual.result c.from_residual.ensures.1 in
    let out = g.W.Write.contents c.args.out.now in
    let arch = c.args.arch.now in
    let nr = c.args.nr in
    let index = c.args.index in
    let refused = rw (to_z-of_z w64 c.args.nr c.ranges.nr) at c.in_err-program.ensures.refused in
    rw (error.1, error.2) (refused_before (IsProbeFaultless arch nr index) (IsProbed arch nr index c.args.value)
    (IsRefusedProbe arch nr index) (g.R.Read.remaining c.args.records) (λ rest no. no) (λ e no. no) (λ e no. no) c.in_err-program.field-0.0
    out out refused)

pub returns-clause-answers : goal.returns-clause-answers
returns-clause-answers g c =
    let contents = g.W.Write.contents in
    let arch = c.args.arch.now in
    let nr = c.args.nr in
    let index = c.args.index in
    let program = c.in_ok-program.program in
    let of = rw (to_z-of_z w64 c.args.nr c.ranges.nr) at c.in_ok-program.ensures.compiled in
    told_of_records (IsProbeFaultless arch nr index) (IsProbed arch nr index c.args.value) (IsRefusedProbe arch nr index)
    (g.R.Read.remaining c.args.records) of.faultless tt (AreLines program.items)
    (λ calls text lines. record {
      faultless = of.faultless;
      traced = record {
        program = program.items;
        compiled = of.compiled;
        lines = lines;
      };
    })
    c.tell_records.result (contents c.args.out.now) (contents c.tell_records.new.out)
    (rw c.as_slice.ensures.value at c.tell_records.ensures.told)
    c.tell_records.ensures.cause
