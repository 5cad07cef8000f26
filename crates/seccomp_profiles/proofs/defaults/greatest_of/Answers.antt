use Rattle.std.proofs.Common.{◌≡◌, pos, Some, ap, map, string_bytes, sym, subst, ◌∙◌, arith, inr}
use Rattle.std.specs.Prelude.{Any}
use Rattle.std.proofs.lemmas.List.{take_all}
use Rattle.seccomp_profiles.specs.Abis.{end_for, number_for}
use Rattle.seccomp_profiles.specs.Decision.{IsNameOf}
use Rattle.seccomp_profiles.specs.Defaults.{IsGreatest}
use Rattle.seccomp_profiles.proofs.Quantified.{more_texts}
use Rattle.seccomp_profiles.proofs.defaults.Greatest.{end_positive, greatest_more, greatest_nil, greatest_passed}
use Rattle.seccomp_profiles.proofs.defaults.greatest_of.Goals as goal

pub loop-name-init : goal.loop-name-init
loop-name-init c = greatest_nil (end_for c.args.abi) (λ name n. IsNameOf c.args.abi n name) (end_positive c.args.abi)

pub loop-name-preserved-in_default : goal.loop-name-preserved-in_default
loop-name-preserved-in_default c = greatest_passed (end_for c.args.abi) (λ name n. IsNameOf c.args.abi n name) _ _ _ _
    (more_texts c.args.names.now c.loop-name.name-index _ c.loop-name-test.true c.name-item.is) c.loop-name.invariant
    (λ n is. c.in_default.ensures.none n (ap (number_for c.args.abi) c.as_str.ensures.value ∙ is))

pub loop-name-preserved : goal.loop-name-preserved
loop-name-preserved c =
    let number = c.in-Some.number in
    let is : IsNameOf c.args.abi number (string_bytes c.name-item.result) =
    ap (number_for c.args.abi) (sym c.as_str.ensures.value) ∙ c.in-Some.ensures.some.0 in
    greatest_more (end_for c.args.abi) (λ name n. IsNameOf c.args.abi n name) _ _ _ _ _ _
    (more_texts c.args.names.now c.loop-name.name-index _ c.loop-name-test.true c.name-item.is) c.loop-name.invariant
    (record {
      most = λ n named.
          let same : Some (pos n) ≡ Some (pos number) = sym named ∙ is in
          let one : n ≡ number = cc in
          omega arith;
      own = inr is;
      small = c.in-Some.ensures.some.1;
    }) c.max-greatest.ensures

pub returns : goal.returns
returns c = subst (λ names. IsGreatest (end_for c.args.abi)
    (λ n. Any (IsNameOf c.args.abi n) (map string_bytes names)) c.loop-name.greatest)
    (take_all c.loop-name.name-index c.args.names.now c.loop-name-test.false) c.loop-name.invariant
