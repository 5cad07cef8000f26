use Rattle.std.proofs.Common.{◌≡◌, ◌+◌, ◌∷◌, ◌++◌, ◌∙◌, [], ℕ, List, ap, arith, length, rules, subst, sym, take}
use Rattle.std.specs.List.{enumerate_from, flat_map}
use Rattle.std.proofs.lemmas.List.{append-nil, flat_map_more, get_or_read, take_all}
use Rattle.seccomp_entries.specs.Entries.{Entry}
use Rattle.seccomp_warnings.specs.Parts.{Part}
use Rattle.seccomp_warnings.specs.Warnings.{first_subjects, subjects_at}
use Rattle.seccomp_warnings.specs.declared.warning.Subject.{Subject}
use Rattle.seccomp_warnings.proofs.Those.{enumerate_more}
use Rattle.seccomp_warnings.proofs.walk.subjects_of.Goals as goal

pub loop-place-init : goal.loop-place-init
loop-place-init c =
    let begun : c.in_ok-subjects.subjects.items ≡ first_subjects c.args.part.now = search rules in
    begun ∙ sym (append-nil (first_subjects c.args.part.now))

pub loop-place-preserved : goal.loop-place-preserved
loop-place-preserved c =
    let p : Part = c.args.part.now in
    let place = c.loop-place.place in
    let own : Entry = c.entry-item.result in
    let items : List Entry = c.deref-entry-items.result.now in
    let same : items ≡ p.entries = c.deref-entry-items.ensures.value ∙ ap (λ (x : Part). x.entries) c.part.view_is in
    let more : enumerate_from 0 (take (place + 1) items) ≡ enumerate_from 0 (take place items) ++ (place, own) ∷ [] =
    enumerate_more items place own c.loop-place-test.true
    ∙ ap (λ (x : Entry). enumerate_from 0 (take place items) ++ (place, x) ∷ []) (sym c.entry-item.is) in
    c.in_ok-push_entry.ensures ∙ ap (λ (ss : List Subject). ss ++ subjects_at (place, own)) c.loop-place.invariant
    ∙ flat_map_more subjects_at (first_subjects p) (enumerate_from 0 (take place p.entries)) (place, own)
    ∙ ap (λ (es : List (ℕ × Entry)). first_subjects p ++ flat_map subjects_at es)
    (subst (λ (es : List Entry). enumerate_from 0 (take place es) ++ (place, own) ∷ [] ≡ enumerate_from 0 (take (place + 1) es)) same
    (sym more))

pub returns : goal.returns
returns c =
    let p : Part = c.args.part.now in
    let items : List Entry = c.deref-entry-items.result.now in
    let same : items ≡ p.entries = c.deref-entry-items.ensures.value ∙ ap (λ (x : Part). x.entries) c.part.view_is in
    let many : length items ≡ length p.entries = ap (λ (es : List Entry). length es) same in
    c.loop-place.invariant ∙ ap (λ (es : List Entry). first_subjects p ++ flat_map subjects_at (enumerate_from 0 es))
    (take_all c.loop-place.place p.entries (omega (arith, many, c.loop-place-test.false)))
