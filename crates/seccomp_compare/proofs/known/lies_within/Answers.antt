use Rattle.std.proofs.Common.{◌≡◌, refl, sym, ap, ◌∙◌, arith}
use Rattle.std.specs.Prelude.{bit_and}
use Rattle.std.proofs.lemmas.Bool.{false≢true}
use Rattle.seccomp_compare.proofs.Masks.{known_below, masks_swap}
use Rattle.seccomp_compare.proofs.known.lies_within.Goals.{then-most-span-2-via-then-most-span-2}
use Rattle.seccomp_compare.proofs.known.lies_within.Goals.{then-most-span-2-via-else-most-span-2+then-span-least-2}
use Rattle.seccomp_compare.proofs.known.lies_within.Goals as goal

pub returns-then-most-span-clause-some : goal.returns-then-most-span-clause-some
returns-then-most-span-clause-some c = λ x fits has.
    let below = known_below x c.args.known.mask c.args.known.value c.args.span.mask has in
    let above = c.most_under-most.ensures.above x fits has in
    (λ _. (omega arith, omega arith), λ _. refl)

pub returns-then-most-span-2-clause-some : goal.returns-then-most-span-2-clause-some
returns-then-most-span-2-clause-some c = λ x fits has.
    let below = known_below x c.args.known.mask c.args.known.value c.args.span.mask has in
    let above = c.most_under-most.ensures.above x fits has in (
      λ f. absurd (false≢true f),
      λ lies.
          let no : ⊥ = elim c.then-most-span-2.branch [
            | then-most-span-2-via-then-most-span-2 w ↦ omega arith
            | then-most-span-2-via-else-most-span-2+then-span-least-2 w ↦ omega arith
          ] in
          absurd no,
    )

pub returns-then-span-known-clause-some : goal.returns-then-span-known-clause-some
returns-then-span-known-clause-some c = λ x fits has. (
  λ f. absurd (false≢true f),
  λ lies.
      let k = c.args.known in
      let span = c.args.span in
      let other : bit_and x span.mask ≡ span.least = omega arith in
      let same : bit_and span.least k.mask ≡ bit_and k.value span.mask =
      ap (λ n. bit_and n k.mask) (sym other) ∙ masks_swap x span.mask k.mask ∙ ap (λ n. bit_and n span.mask) has in
      absurd (c.if-span-known.true same),
)
