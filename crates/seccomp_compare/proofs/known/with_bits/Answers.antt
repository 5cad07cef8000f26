use Rattle.std.proofs.Common.{sym, ap, ◌∙◌}
use Rattle.std.specs.Prelude.{bit_and}
use Rattle.seccomp_compare.proofs.Masks.{kept_by, masks_swap}
use Rattle.seccomp_compare.proofs.KnownBits.{both_known, both_kept}
use Rattle.seccomp_compare.proofs.known.with_bits.Goals.{then-value-mask-via-then-value-mask}
use Rattle.seccomp_compare.proofs.known.with_bits.Goals.{then-value-mask-via-else-value-mask+then-known-mask}
use Rattle.seccomp_compare.proofs.known.with_bits.Goals as goal

pub returns-then-value-mask-clause-none : goal.returns-then-value-mask-clause-none
returns-then-value-mask-clause-none c = λ x has is.
    let k = c.args.known in
    elim c.then-value-mask.branch [
      | then-value-mask-via-then-value-mask w ↦ w.if-value-mask.true (kept_by x c.args.mask c.args.value is)
      | then-value-mask-via-else-value-mask+then-known-mask w ↦ w.if-known-mask.true
          (ap (λ n. bit_and n c.args.mask) (sym has) ∙ masks_swap x k.mask c.args.mask ∙ ap (λ n. bit_and n k.mask) is)
    ]

pub returns-clause-some : goal.returns-clause-some
returns-clause-some c = λ x has is. both_known x c.args.known.mask c.args.known.value c.args.mask c.args.value has is

pub returns-clause-kept : goal.returns-clause-kept
returns-clause-kept c = both_kept c.args.known.mask c.args.known.value c.args.mask c.args.value c.requires.kept c.if-value-mask.false
