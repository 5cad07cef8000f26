use Rattle.std.proofs.Common.{ap, sym, ◌∙◌}
use Rattle.std.specs.Prelude.{bit_and}
use Rattle.std.proofs.lemmas.Bool.{false≢true}
use Rattle.seccomp_compare.proofs.Masks.{masks_swap}
use Rattle.seccomp_compare.proofs.values.is_equal.Goals as goal

pub returns-then-k-values : goal.returns-then-k-values
returns-then-k-values c = λ x fits has.
    let s = c.args.values in (
      λ f. absurd (false≢true f),
      λ e. absurd
          (c.if-k-values.true (ap (λ n. bit_and n s.known) (sym e) ∙ masks_swap x c.args.mask s.known
          ∙ ap (λ n. bit_and n c.args.mask) has.bits)),
    )
