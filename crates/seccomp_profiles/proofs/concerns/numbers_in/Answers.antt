use Rattle.std.proofs.Common.{◌≡◌, Some, None, ap, ◌∙◌, inl, inr, map, refl, rules, string_bytes, subst, sym}
use Rattle.std.specs.Cmp.Rules.{comparing}
use Rattle.std.specs.Prelude.{◌↔◌, Contains, IsTrue}
use Rattle.std.proofs.lemmas.Bool.{true≢false}
use Rattle.std.proofs.lemmas.List.{take_all}
use Rattle.seccomp_profiles.specs.Types.{Entry}
use Rattle.seccomp_profiles.proofs.concerns.Numbers.{AreNumbersOf, concerned, next}
use Rattle.seccomp_profiles.proofs.concerns.numbers_in.Goals as goal

pub loop-name-preserved-in_default : goal.loop-name-preserved-in_default
loop-name-preserved-in_default c = next c.args.abi _ _ c.as_slice-names.result.now c.loop-name.name-index _ _ None c.loop-name-test.true
    c.name-item.is c.as_str.ensures.value tt c.in_default.ensures.none refl c.loop-name.invariant

pub loop-name-preserved-then-is_there : goal.loop-name-preserved-then-is_there
loop-name-preserved-then-is_there c =
    let there = subst (λ ns. Contains ns c.in-Some.number) c.as_slice.ensures.value (c.is_there.ensures.0 c.if-is_there.true) in
    next c.args.abi _ _ c.as_slice-names.result.now c.loop-name.name-index _ _ (Some c.in-Some.number) c.loop-name-test.true
    c.name-item.is c.as_str.ensures.value c.in-Some.ensures.some tt (inr (there, refl)) c.loop-name.invariant

pub loop-name-preserved : goal.loop-name-preserved
loop-name-preserved c =
    let new = λ (has : Contains c.loop-name.numbers.items c.in-Some.number). true≢false
    (sym (c.is_there.ensures.1 (subst (λ ns. Contains ns c.in-Some.number) (sym c.as_slice.ensures.value) has)) ∙ c.if-is_there.false) in
    next c.args.abi _ _ c.as_slice-names.result.now c.loop-name.name-index _ _ (Some c.in-Some.number) c.loop-name-test.true
    c.name-item.is c.as_str.ensures.value c.in-Some.ensures.some tt (inl (c.in_ok-push.ensures.items, new)) c.loop-name.invariant

pub returns : goal.returns
returns c =
    let all = take_all c.loop-name.name-index c.as_slice-names.result.now c.loop-name-test.false in
    let names = ap (map string_bytes) (all ∙ c.as_slice-names.ensures.value) ∙ ap (λ (e : Entry). e.names) c.entry.view_is in
    let same : IsTrue c.eq.result ↔ (c.entry.inside.action ≡ c.args.default) = search (comparing, rules) in
    concerned c.args.abi c.args.container.now c.args.default c.args.entry.now c.loop-name.numbers.items
    (c.if-not-applies_on.ensures.0 refl)
    (λ is. true≢false (sym (same.1 (ap (λ (e : Entry). e.action) c.entry.view_is ∙ is)) ∙ c.if-eq.false))
    (subst (λ texts. AreNumbersOf c.args.abi texts c.loop-name.numbers.items) names c.loop-name.invariant)
