use Rattle.std.proofs.Common.{map, string_bytes, ap, refl, sym, subst, ◌∙◌, inl, inr}
use Rattle.std.specs.Prelude.{Any}
use Rattle.std.proofs.lemmas.Bool.{true≢false}
use Rattle.std.proofs.lemmas.List.{take_all}
use Rattle.seccomp_profiles.specs.Abis.{end_for, machine_of}
use Rattle.seccomp_profiles.specs.Decision.{Applies, IsNamed, IsNameOf}
use Rattle.seccomp_profiles.specs.Defaults.{IsGreatest}
use Rattle.seccomp_profiles.specs.Types.{Entry}
use Rattle.seccomp_profiles.proofs.Quantified.{more_read}
use Rattle.seccomp_profiles.proofs.defaults.Greatest.{end_positive, greatest_more, greatest_nil, greatest_passed}
use Rattle.seccomp_profiles.proofs.defaults.greatest_in.Goals as goal

pub loop-entry-init : goal.loop-entry-init
loop-entry-init c = greatest_nil (end_for c.args.abi)
    (λ (e : Entry) n. Applies (machine_of c.args.abi) c.args.container.now e × Any (IsNameOf c.args.abi n) e.names)
    (end_positive c.args.abi)

pub loop-entry-preserved-then-not-applies_on : goal.loop-entry-preserved-then-not-applies_on
loop-entry-preserved-then-not-applies_on c =
    greatest_passed (end_for c.args.abi)
    (λ (e : Entry) n. Applies (machine_of c.args.abi) c.args.container.now e × Any (IsNameOf c.args.abi n) e.names) _ _ _ _
    (more_read c.args.entries.now c.loop-entry.entry-index _ c.loop-entry-test.true c.entry-item.is) c.loop-entry.invariant
    (λ n has. true≢false (sym (c.if-not-applies_on.ensures.1 has.0)))

pub loop-entry-preserved : goal.loop-entry-preserved
loop-entry-preserved c =
    let names = ap (map string_bytes) c.as_slice.ensures.value ∙ ap (λ (e : Entry). e.names) c.entry.view_is in
    let named = subst (λ texts. IsGreatest (end_for c.args.abi) (λ n. Any (IsNameOf c.args.abi n) texts) c.greatest_of.result)
    names c.greatest_of.ensures in
    let applies = c.if-not-applies_on.ensures.0 refl in
    greatest_more (end_for c.args.abi)
    (λ (e : Entry) n. Applies (machine_of c.args.abi) c.args.container.now e × Any (IsNameOf c.args.abi n) e.names) _ _ _ _ _ _
    (more_read c.args.entries.now c.loop-entry.entry-index _ c.loop-entry-test.true c.entry-item.is) c.loop-entry.invariant
    (record {
      most = λ n has. named.most n has.1;
      own = elim named.own [ inl zero ↦ inl zero | inr has ↦ inr (applies, has) ];
      small = named.small;
    }) c.max-greatest.ensures

pub returns : goal.returns
returns c = subst (λ es. IsGreatest (end_for c.args.abi) (IsNamed c.args.abi c.args.container.now es) c.loop-entry.greatest)
    (take_all c.loop-entry.entry-index c.args.entries.now c.loop-entry-test.false) c.loop-entry.invariant
