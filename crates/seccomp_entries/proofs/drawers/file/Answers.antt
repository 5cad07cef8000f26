use Rattle.std.proofs.Common.{◌≡◌, ◌∷◌, [], ◌++◌, ℕ, Some, None, Vec, Global, sym, subst, ap, ◌∙◌}
use Rattle.std.specs.Prelude.{Contains}
use Rattle.std.specs.BTreeMap.{get}
use Rattle.std.proofs.lemmas.List.Elements.{Contains-append_left}
use Rattle.seccomp_entries.specs.Drawers.{drawer_cmp}
use Rattle.seccomp_entries.proofs.InDrawers.{kept}
use Rattle.seccomp_entries.proofs.drawers.file.Goals.{in-None, in-Some}
use Rattle.seccomp_entries.proofs.drawers.file.Goals as goal

pub returns-clause-old : goal.returns-clause-old
returns-clause-old c =
    let old = get drawer_cmp c.args.files.now c.args.drawer in
    let now = c.push.new.self in
    let items : now.items ≡ c.match-remove.places.items ++ c.args.place ∷ [] = c.in_ok-push.ensures.items in
    let was : c.remove.result ≡ old = c.remove.ensures.value in
    let more : (v : Vec ℕ Global) → old ≡ Some v → (k : ℕ) → Contains v.items k → Contains now.items k = λ v there k has.
    elim c.match-remove.branch [
      | in-Some w ↦ (
          let found : Some w.in-Some.places ≡ Some v = sym w.in-Some.is ∙ was ∙ there in
          let same : v ≡ w.in-Some.places = cc in
          let here : v.items ≡ c.match-remove.places.items = ap (λ (x : Vec ℕ Global). x.items) (same ∙ sym w.places-is) in
          subst (λ xs. Contains xs k) (ap (λ xs. xs ++ c.args.place ∷ []) here ∙ sym items)
          (Contains-append_left v.items (c.args.place ∷ []) k has))
      | in-None w ↦ (
          let found : None ≡ Some v = sym w.in-None.is ∙ was ∙ there in
          absurd (let never : ⊥ = cc in never))
    ] in
    kept c.args.files.now c.remove.new.self c.insert.new.self c.args.drawer now c.remove.ensures.updates c.in_ok-insert.ensures.updates more
