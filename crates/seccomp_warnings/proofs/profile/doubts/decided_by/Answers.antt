use Rattle.std.proofs.Common.{◌≡◌, ◌∙◌, ℕ, List, ap, get_or, subst, sym}
use Rattle.std.proofs.lemmas.Option.{get_or_from_slice_get}
use Rattle.seccompiler.specs.declared.backend.TargetArch.{TargetArch}
use Rattle.seccomp_entries.specs.Entries.{Entry, IsDecider, Lowered}
use Rattle.seccomp_entries.specs.Reasons.{IsReason, IsReasonOfCall, of_another, of_call}
use Rattle.seccomp_entries.specs.declared.reason.Reason.{Reason}
use Rattle.seccomp_entries.specs.declared.reason.Reason.TheVariants as reason
use Rattle.seccomp_warnings.proofs.profile.doubts.decided_by.Goals as goal

-- The entry that is the reason decides.
decider_of : (target : TargetArch) (entries : List Entry) (r : List ℕ) (why : Reason) (index number : ℕ) → IsReason target entries r why
    → why ≡ reason.Entry index number → IsDecider entries r index
decider_of target entries r why index number (of_another apart is) same = let never : ⊥ = cc in absurd never
decider_of target entries r why index number (of_call here own) same = (subst (IsReasonOfCall entries r) same own).1

pub returns-then-entry-place : goal.returns-then-entry-place
returns-then-entry-place c =
    let entries = c.args.lowered.now.entries in
    let index = c.in-Entry.index in
    let e : Entry = c.index-entry.result.now in
    let decides = decider_of c.args.lowered.now.target_arch entries c.args.call.now c.explain.result.reason index c.in-Entry.number
    c.explain.ensures.reason c.in-Entry.is in
    let read : e ≡ get_or entries index e =
    c.index-entry.ensures ∙ ap (λ (l : Lowered). get_or l.entries index e) c.lowered.view_is in
    let same : decides.entry ≡ e = sym (get_or_from_slice_get entries index decides.entry e decides.there) ∙ sym read in
    record {
      index = index;
      decides = decides;
      place_is = ap (λ (x : Entry). x.place) same ∙ sym (ap (λ (x : Entry). x.place) c.entry.view_is) ∙ c.if-entry-place.true;
      action_is = ap (λ (x : Entry). x.action) same ∙ sym (ap (λ (x : Entry). x.action) c.entry.view_is);
    }
