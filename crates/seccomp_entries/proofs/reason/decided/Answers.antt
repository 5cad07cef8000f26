use Rattle.std.proofs.Common.{◌≡◌, ◌∙◌, ap, sym}
use Rattle.seccompiler.specs.Architecture.{audit_word}
use Rattle.seccomp_entries.specs.Entries.{Entry, IsDecider, Lowered, value_of}
use Rattle.std.proofs.lemmas.Option.{get_or_from_slice_get}
use Rattle.seccomp_entries.proofs.Misses.{decided_by}
use Rattle.seccomp_entries.proofs.reason.decided.Goals as goal

pub returns-in-Some : goal.returns-in-Some
returns-in-Some c =
    let entries = c.as_slice-entries.result.now in
    let index = c.in-Some.index in
    let is : IsDecider entries c.args.call.now index = c.in-Some.ensures in
    let entry : Entry = c.index-entries-index.result in
    let same : is.entry ≡ entry = sym (get_or_from_slice_get entries index is.entry entry is.there) ∙ sym c.index-entries-index.is in
    let all = c.as_slice-entries.ensures.value ∙ ap (λ (l : Lowered). l.entries) c.lowered.view_is in
    let word : c.into-in-Some.result ≡ value_of is.entry.action =
    c.into-in-Some.ensures ∙ ap value_of (ap (λ (e : Entry). e.action) (c.entry.view_is ∙ sym same)) in
    decided_by c.args.lowered.now c.args.call.now entries index c.into-in-Some.result all
    (sym c.word_at.ensures ∙ c.if-word_at-get_audit_value.false ∙ c.get_audit_value.ensures
    ∙ ap (λ (l : Lowered). audit_word l.target_arch) c.lowered.view_is) is word
