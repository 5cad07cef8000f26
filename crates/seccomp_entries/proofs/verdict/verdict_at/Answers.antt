use Rattle.std.proofs.Common.{sym, subst}
use Rattle.seccomp_entries.specs.Verdicts.{IsVerdict}
use Rattle.seccomp_entries.proofs.Beside.{at_place, is_verdict}
use Rattle.seccomp_entries.proofs.verdict.verdict_at.Goals as goal

pub returns : goal.returns
returns c =
    let entries = c.args.entries.now in
    let own = c.index-entries-place.result in
    at_place entries c.args.place own (λ e. IsVerdict c.args.arch entries c.args.place c.args.most e c.verdict_by.result)
    c.requires.within c.index-entries-place.is
    (subst (IsVerdict c.args.arch entries c.args.place c.args.most own) (sym c.verdict_by.ensures)
    (is_verdict c.args.arch entries c.args.place c.args.most own c.in_ok-alone.alone c.in_ok-beside.beside c.in_ok-alone.ensures
    c.in_ok-beside.ensures))
