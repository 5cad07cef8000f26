use Rattle.std.proofs.Common.{◌≡◌, [], ◌++◌, ap, map, refl, string_bytes, sym, subst, ◌∙◌}
use Rattle.std.proofs.lemmas.Bool.{true≢false}
use Rattle.std.proofs.lemmas.List.{map-append, take_all}
use Rattle.seccomp_profiles.specs.LeftOut.{AreLeftOut, AreUnknown, applies, none, passed}
use Rattle.seccomp_profiles.specs.Types.{Entry, Profile}
use Rattle.seccomp_profiles.proofs.Quantified.{more_read}
use Rattle.seccomp_profiles.proofs.unknown.unknown_names.Goals as goal

pub loop-entry-init : goal.loop-entry-init
loop-entry-init c =
    subst (λ all. AreLeftOut c.args.arch c.args.container.now [] (map string_bytes all)) (sym c.new-left_out.ensures.items) none

pub loop-entry-preserved-then-not-applies : goal.loop-entry-preserved-then-not-applies
loop-entry-preserved-then-not-applies c =
    subst (λ es. AreLeftOut c.args.arch c.args.container.now es (map string_bytes c.loop-entry.left_out.items))
    (sym (more_read c.as_slice-entries.result.now c.loop-entry.entry-index _ c.loop-entry-test.true c.entry-item.is))
    (passed c.loop-entry.invariant (λ is. true≢false (sym (c.if-not-applies.ensures.1 is))))

pub loop-entry-preserved : goal.loop-entry-preserved
loop-entry-preserved c =
    let names = ap (map string_bytes) c.as_slice.ensures.value ∙ ap (λ (e : Entry). e.names) c.entry.view_is in
    let own = subst (λ texts. AreUnknown c.args.arch texts (map string_bytes c.in_ok-own.own.items)) names c.in_ok-own.ensures in
    let longer : map string_bytes c.append.new.self.items
    ≡ map string_bytes c.loop-entry.left_out.items ++ map string_bytes c.in_ok-own.own.items =
    ap (map string_bytes) c.in_ok-append.ensures.items ∙ map-append string_bytes c.loop-entry.left_out.items c.in_ok-own.own.items in
    subst (λ es. AreLeftOut c.args.arch c.args.container.now es (map string_bytes c.append.new.self.items))
    (sym (more_read c.as_slice-entries.result.now c.loop-entry.entry-index _ c.loop-entry-test.true c.entry-item.is))
    (subst (AreLeftOut c.args.arch c.args.container.now _) (sym longer)
    (applies c.loop-entry.invariant (c.if-not-applies.ensures.0 refl) own))

pub returns : goal.returns
returns c = subst (λ es. AreLeftOut c.args.arch c.args.container.now es (map string_bytes c.loop-entry.left_out.items))
    (take_all c.loop-entry.entry-index c.as_slice-entries.result.now c.loop-entry-test.false ∙ c.as_slice-entries.ensures.value
    ∙ ap (λ (p : Profile). p.entries) c.profile.view_is) c.loop-entry.invariant
