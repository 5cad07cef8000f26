use Rattle.std.proofs.Common.{◌≡◌, ◌∙◌, Contains, List, ap, subst, sym}
use Rattle.std.proofs.lemmas.List.Elements.{All-push}
use Rattle.seccomp_entries.specs.Entries.{Entry, Lowered}
use Rattle.seccomp_warnings.specs.Doubts.{IsDoubtIn}
use Rattle.seccomp_warnings.specs.ProfileWarnings.{IsTrueOf}
use Rattle.seccomp_warnings.specs.declared.profile.doubts.Doubt.TheVariants as doubt
use Rattle.seccomp_warnings.proofs.Doubted.{is_behind}
use Rattle.seccomp_warnings.proofs.profile.doubts.push_behind.Goals.{then-is_behind+in_ok-push, else-is_behind}
use Rattle.seccomp_warnings.proofs.profile.doubts.push_behind.Goals as goal

pub loop-entry-preserved : goal.loop-entry-preserved
loop-entry-preserved c =
    let l : Lowered = c.args.lowered.now in
    let e : Entry = c.entry-item.result in
    let same : c.as_slice-entry-items.result.now ≡ l.entries =
    c.as_slice-entry-items.ensures.value ∙ ap (λ (l : Lowered). l.entries) c.lowered.view_is in
    let there : Contains l.entries e =
    subst (λ (es : List Entry). Contains es e) same (c.loop-entry.entry-index, c.loop-entry-test.true, sym c.entry-item.is) in
    elim c.if-is_behind.branch [
      | then-is_behind+in_ok-push w ↦ λ p so. rw (w.all-is, w.in_ok-push.ensures.items)
          (let own = c.is_behind.ensures w.if-is_behind.true in
          All-push (IsTrueOf c.args.allowed.now p l) c.loop-entry.all.items _ (c.loop-entry.invariant p so) (
            subst (λ place. IsDoubtIn p l (doubt.Behind c.args.first place c.args.number))
                (sym (ap (λ (x : Entry). x.place) c.entry.view_is))
                (is_behind p l c.args.number c.args.first c.requires.settles e there own.0 own.1),
            c.requires.told,
          ))
      | else-is_behind w ↦ rw w.all-is c.loop-entry.invariant
    ]
