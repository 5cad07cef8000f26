use Rattle.std.proofs.Common.{◌≡◌, ◌<◌, ◌^◌, ◌-◌, ℕ, arith, rules, bit_and}
use Rattle.std.specs.Prelude.{bit_or}
use Rattle.std.proofs.lemmas.Nat.{and_le_l}
use Rattle.seccomp_compare.specs.declared.values.Values.{Values}
use Rattle.seccomp_compare.specs.WordSets.{HasValue}
use Rattle.seccomp_compare.proofs.Masks.{under_known, under_parts, under_kept}
use Rattle.seccomp_compare.proofs.values.tightened.Goals as goal

-- what a word of the set is under the mask
under_mask : (s : Values) → s.mask < 2 ^ 32 → s.value < 2 ^ 32 → (x : ℕ) → x < 2 ^ 32 → HasValue s x
    → (bit_and x s.mask < 2 ^ 32) × (bit_and (bit_and x s.mask) (bit_or s.known (4294967295 - s.mask)) ≡ bit_and s.value s.mask)
under_mask s mask_fits value_fits x fits has =
    let small = and_le_l x s.mask in (omega (arith, small, fits), under_known x s.known s.value s.mask mask_fits value_fits has.bits)

pub raised-requires-clause-kept : goal.raised-requires-clause-kept
raised-requires-clause-kept c =
    let s = c.args.values in
    let mask_fits : s.mask < 2 ^ 32 = search rules in
    let value_fits : s.value < 2 ^ 32 = search rules in
    under_kept s.known s.value s.mask mask_fits value_fits c.requires

pub returns-in_default-clause-same : goal.returns-in_default-clause-same
returns-in_default-clause-same c =
    let s = c.args.values in
    let mask_fits : s.mask < 2 ^ 32 = search rules in
    let value_fits : s.value < 2 ^ 32 = search rules in
    record {
      to = λ x fits has.
          let under = under_mask s mask_fits value_fits x fits has in
          absurd (c.in_default.ensures.behind (bit_and x s.mask) under.0 under.1 (c.loop-least.invariant.first x fits has));
      back = λ x fits has. let least = has.least in let most = has.most in absurd (omega (arith, least, most));
    }

pub loop-least-preserved : goal.loop-least-preserved
loop-least-preserved c =
    let s = c.args.values in
    let mask_fits : s.mask < 2 ^ 32 = search rules in
    let value_fits : s.value < 2 ^ 32 = search rules in
    record {
      first = λ x fits has.
          let under = under_mask s mask_fits value_fits x fits has in
          c.in-Some.ensures.behind (bit_and x s.mask) under.0 under.1 (c.loop-least.invariant.first x fits has);
      later = omega (arith, c.loop-least.invariant.later, c.in-Some.ensures.greater);
      fits = search rules;
    }

pub from-requires-clause-within : goal.from-requires-clause-within
from-requires-clause-within c =
    let s = c.args.values in
    let mask_fits : s.mask < 2 ^ 32 = search rules in
    let value_fits : s.value < 2 ^ 32 = search rules in
    (under_parts c.loop-least.least s.known s.value s.mask c.loop-least.invariant.fits
    mask_fits value_fits c.requires c.loop-least-test.false).0

pub from-requires-clause-bits : goal.from-requires-clause-bits
from-requires-clause-bits c =
    let s = c.args.values in
    let mask_fits : s.mask < 2 ^ 32 = search rules in
    let value_fits : s.value < 2 ^ 32 = search rules in
    (under_parts c.loop-least.least s.known s.value s.mask c.loop-least.invariant.fits
    mask_fits value_fits c.requires c.loop-least-test.false).1
