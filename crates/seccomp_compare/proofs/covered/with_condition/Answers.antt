use Rattle.std.proofs.Common.{◌≡◌, ℕ, Option, Some, None, ap, ◌∙◌, arith}
use Rattle.std.specs.Prelude.{IfSome, bit_or}
use Rattle.std.specs.Int.{bit_at}
use Rattle.std.proofs.lemmas.Nat.Bits.{bit_at_or, bit_at-lt}
use Rattle.seccompiler.specs.Policy.{Condition}
use Rattle.seccomp_compare.specs.Cover.{KnowsMore, compared}
use Rattle.seccomp_compare.specs.declared.known.Known.{Known}
use Rattle.seccomp_compare.proofs.covered.with_condition.Goals as goal

more_known : (known : Known) (c : Condition) (mask : ℕ) (o : Option Known) → mask ≡ compared c
    → IfSome o (λ more. more.mask ≡ bit_or known.mask mask) → IfSome o (KnowsMore known c)
more_known known c mask None is made = tt
more_known known c mask (Some more) is made = record {
  kept = λ j one.
      let bits = ap (λ n. bit_at n j) made ∙ bit_at_or known.mask mask j in
      let lt = bit_at-lt mask j in
      omega (arith, bits, one, lt);
  fixed = λ _ j one.
      let bits = ap (λ n. bit_at n j) made ∙ bit_at_or known.mask mask j in
      let same = ap (λ n. bit_at n j) is in
      let lt = bit_at-lt known.mask j in
      omega (arith, bits, one, same, lt);
}

pub returns-clause-fixed : goal.returns-clause-fixed
returns-clause-fixed c =
    more_known c.args.known c.args.condition.now _ c.with_bits.result c.span_of-span.ensures.mask c.with_bits.ensures.mask
