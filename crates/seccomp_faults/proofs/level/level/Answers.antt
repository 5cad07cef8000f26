use Rattle.std.proofs.Common.{All, sym, subst}
use Rattle.std.proofs.lemmas.List.Elements.{All-nil}
use Rattle.seccomp_faults.proofs.Parts.{IsPart, view}
use Rattle.seccomp_faults.proofs.level.level.Goals as goal

pub returns : goal.returns
returns c =
    let P = IsPart c.args.target c.args.form (view c.args.value.now) in
    let none = subst (All P) (sym c.new-parts.ensures.items) (All-nil P) in
    c.in_ok-add_missed.ensures (c.in_ok-add_array.ensures c.args.target (c.in_ok-add_object.ensures none))
