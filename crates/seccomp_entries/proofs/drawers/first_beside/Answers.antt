use Rattle.std.proofs.Common.{ap, arith, sym, subst, ◌∙◌, ⊎_elim}
use Rattle.std.proofs.lemmas.Option.{slice_get_within}
use Rattle.seccomp_entries.specs.Drawers.{Drawer, IsIn}
use Rattle.seccomp_entries.specs.Verdicts.{IsBeside}
use Rattle.seccomp_entries.specs.Entries.{Meets}
use Rattle.seccomp_entries.proofs.InDrawers.{drawers_of_call, none_weaker}
use Rattle.seccomp_entries.proofs.drawers.first_beside.Goals as goal

pub returns-clause-none : goal.returns-clause-none
returns-clause-none c =
    let entries = c.args.entries.now in
    let r = c.args.call.now in
    let files = c.args.files.now in
    none_weaker c.first_in.result
    (λ none (is : IsBeside entries c.args.place (Meets r)).
    let within = slice_get_within entries is.at is.entry is.there in
    let filed = c.requires is.at is.entry within is.there in
    ⊎_elim
    (λ own.
    let drawer = own ∙ ap (λ n. (6, n)) (sym c.word_at.ensures) in
    none is.at is.entry (subst (λ (d : Drawer). IsIn files d is.at) drawer filed.inside) is.other is.there is.is)
    (λ fixed.
    c.loop-index.invariant fixed.0 is.at is.entry (omega (arith, fixed.1, c.loop-index-test.false))
    (subst (λ (d : Drawer). IsIn files d is.at) fixed.2 filed.inside) is.other is.there is.is)
    (drawers_of_call is.entry filed.drawer r c.fits-call filed.is is.is))
    c.first_in.ensures.none
