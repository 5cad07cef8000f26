use Rattle.std.proofs.Common.{◌≡◌, ◌++◌, ◌∙◌, List, None, Option, ap, append-nil, map, subst, sym}
use Rattle.std.specs.Prelude.{slice_get}
use Rattle.std.proofs.lemmas.Option.{slice_get_past}
use Rattle.seccomp_entries.specs.Entries.{Entry}
use Rattle.seccomp_warnings.specs.Parts.{Part}
use Rattle.seccomp_warnings.specs.ProfileWarnings.{origins_at}
use Rattle.seccomp_warnings.specs.declared.profile.warnings.ProfileWarning.{ProfileWarning}
use Rattle.seccomp_warnings.specs.declared.profile.warnings.ProfileWarning.TheVariants.{OfEntries}
use Rattle.seccomp_warnings.proofs.profile.told.push_at.Goals as goal

pub returns-in-None : goal.returns-in-None
returns-in-None c =
    let old : List ProfileWarning = c.args.told.now.items in
    let place = c.args.place in
    let items : List Entry = c.deref.result.now in
    let same : items ≡ c.args.part.now.entries = c.deref.ensures.value ∙ ap (λ (p : Part). p.entries) c.part.view_is in
    let gone : slice_get c.args.part.now.entries place ≡ None =
    subst (λ (es : List Entry). slice_get es place ≡ None) same (slice_get_past items place c.in-None.ensures.lookup.3) in
    sym (append-nil old) ∙ ap (λ (o : Option Entry). old ++ map (OfEntries c.args.warning) (origins_at o)) (sym gone)
