use Rattle.std.proofs.Common.{arith}
use Rattle.std.proofs.lemmas.Nat.{and_le_l, and_le_r}
use Rattle.seccomp_compare.proofs.Masks.{known_above}
use Rattle.seccomp_compare.proofs.values.most_by_bits.Goals as goal

pub returns : goal.returns
returns c = λ x fits bits.
    let above = known_above x c.args.values.known c.args.values.value c.args.mask bits in
    let below = and_le_l x c.args.mask in
    let within = and_le_r c.args.values.known c.args.mask in
    omega (arith, above, below, within, fits, c.saturating_add.ensures)
