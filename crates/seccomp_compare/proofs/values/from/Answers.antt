use Rattle.std.proofs.Common.{◌≡◌, ap, ◌∙◌, arith}
use Rattle.std.specs.Prelude.{bit_or, bit_and}
use Rattle.seccomp_compare.proofs.Masks.{with_known, with_known_all, known_all, mask_over_or}
use Rattle.seccomp_compare.proofs.values.from.Goals as goal

pub returns-then-least-values-clause-same : goal.returns-then-least-values-clause-same
returns-then-least-values-clause-same c =
    let s = c.args.values in
    let l = c.args.least in
    record {
      to = λ x fits has.
          let first = c.requires.first x fits has in
          let most = has.most in
          let is : bit_and x s.mask ≡ l = omega (arith, first, most, c.if-least-values.true) in
          record {
            bits = mask_over_or x s.known s.mask ∙ ap (λ n. bit_or n (bit_and x s.mask)) has.bits ∙ ap (λ n. bit_or s.value n) is;
            least = first;
            most = most;
          };
      back = λ x fits has.
          let known = known_all x l s.known s.value s.mask c.requires.kept c.requires.within c.requires.bits has.bits in
          let least = has.least in
          let later = c.requires.later in
          record { bits = known.0; least = omega (arith, least, later); most = has.most };
    }

pub returns-then-least-values-clause-tight : goal.returns-then-least-values-clause-tight
returns-then-least-values-clause-tight c = λ some.
    let s = c.args.values in
    let known = with_known_all c.args.least s.known s.value s.mask c.requires.kept c.requires.within c.requires.bits in
    let under = known.1 in
    record { bits = known.0; least = omega (arith, under); most = omega (arith, under, some) }

pub returns-clause-tight : goal.returns-clause-tight
returns-clause-tight c = λ some.
    let s = c.args.values in
    let known = with_known c.args.least s.known s.value s.mask c.requires.kept c.requires.within c.requires.bits in
    let under = known.1 in
    record { bits = known.0; least = omega (arith, under); most = omega (arith, under, some) }
