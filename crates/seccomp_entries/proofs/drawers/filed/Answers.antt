use Rattle.std.proofs.Common.{◌≡◌, Some, arith, length, refl, sym, subst, ap, ◌∙◌, ⊎_elim}
use Rattle.std.specs.Prelude.{slice_get}
use Rattle.std.proofs.lemmas.Bool.{cases_eq}
use Rattle.std.proofs.lemmas.Option.{slice_get_read}
use Rattle.seccomp_entries.specs.Drawers.{IsDrawerOf, IsIn}
use Rattle.seccomp_entries.proofs.drawers.filed.Goals as goal

pub loop-place-preserved : goal.loop-place-preserved
loop-place-preserved c = λ k e within there.
    let entries = c.args.entries.now in
    let place = c.loop-place.place in
    let own = c.index-entries-place.result in
    let at : slice_get entries place ≡ Some own =
    slice_get_read entries (length entries) place own refl c.loop-place-test.true c.index-entries-place.is in
    ⊎_elim
    (λ here.
    let found : Some e ≡ Some own = sym there ∙ ap (slice_get entries) here ∙ at in
    let one : own ≡ e = cc in
    record {
      drawer = c.drawer_of.result;
      is = subst (λ x. IsDrawerOf x c.drawer_of.result) one c.drawer_of.ensures;
      inside = subst (λ n. IsIn c.file.new.files c.drawer_of.result n) (sym here) c.in_ok-file.ensures.own;
    })
    (λ other.
    let was = c.loop-place.invariant k e (omega (arith, within, other)) there in
    record { drawer = was.drawer; is = was.is; inside = c.in_ok-file.ensures.old was.drawer k was.inside })
    (cases_eq k place)
