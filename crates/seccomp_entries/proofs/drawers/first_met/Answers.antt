use Rattle.std.proofs.Common.{ℕ, ap, arith, subst, sym, ◌∙◌, ⊎_elim}
use Rattle.std.proofs.lemmas.Option.{slice_get_within}
use Rattle.std.specs.Prelude.{Some, slice_get, ◌≡◌}
use Rattle.seccomp_entries.specs.Drawers.{Drawer, IsFoundBy, IsIn}
use Rattle.seccomp_entries.specs.Entries.{Entry, Meets}
use Rattle.seccomp_entries.proofs.InDrawers.{drawers_of_call, first_by, met_at}
use Rattle.seccomp_entries.proofs.drawers.first_met.Goals as goal

pub returns : goal.returns
returns c =
    let entries = c.args.entries.now in
    let r = c.args.call.now in
    let files = c.args.files.now in
    let found = c.least_in.result in
    let each : (k : ℕ) (e : Entry) → slice_get entries k ≡ Some e → Meets r e → IsFoundBy found k = λ k e there meets.
    let filed = c.requires k e (slice_get_within entries k e there) there in
    ⊎_elim
    (λ own.
    let drawer = own ∙ ap (λ n. (6, n)) (sym c.word_at.ensures) in
    c.least_in.ensures.own k (subst (λ (d : Drawer). IsIn files d k) drawer filed.inside) (met_at entries r k e there meets))
    (λ fixed.
    c.least_in.ensures.old k (c.loop-argument.invariant.own fixed.0 k (omega (arith, fixed.1, c.loop-argument-test.false))
    (subst (λ (d : Drawer). IsIn files d k) fixed.2 filed.inside) (met_at entries r k e there meets)))
    (drawers_of_call e filed.drawer r c.fits-call filed.is meets) in
    first_by entries r found each c.least_in.ensures.met
