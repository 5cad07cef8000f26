use Rattle.std.proofs.Common.{⊎_elim, inl, inr, sym, ap, ◌∙◌}
use Rattle.std.specs.Prelude.{bit_and, bit_or}
use Rattle.std.proofs.lemmas.Nat.{one_shl}
use Rattle.seccomp_compare.proofs.Masks.{one_bit, keeps_more}
use Rattle.seccomp_compare.proofs.known.halves.Goals as goal

pub returns-clause-cover : goal.returns-clause-cover
returns-clause-cover c = λ x has.
    let k = c.args.known in
    let e = one_shl c.args.place 64 c.requires.place in
    ⊎_elim
    (λ zero. inl (ap (λ n. bit_and x (bit_or k.mask n)) e ∙ zero))
    (λ one. inr (ap (λ n. bit_and x (bit_or k.mask n)) e ∙ one ∙ ap (λ n. bit_or k.value n) (sym e)))
    (one_bit x k.mask k.value c.args.place has)

pub returns-clause-low : goal.returns-clause-low
returns-clause-low c = (keeps_more c.args.known.mask c.args.known.value _ c.requires.kept).0

pub returns-clause-high : goal.returns-clause-high
returns-clause-high c = (keeps_more c.args.known.mask c.args.known.value _ c.requires.kept).1
