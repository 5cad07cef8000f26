use Rattle.std.proofs.Common.{arith}
use Rattle.std.proofs.lemmas.Nat.{and_comm, and_le_l}
use Rattle.seccomp_compare.proofs.Masks.{known_above}
use Rattle.seccomp_compare.proofs.known.most_under.Goals as goal

pub returns-clause-above : goal.returns-clause-above
returns-clause-above c = λ x fits has.
    let k = c.args.known in
    let above = known_above x k.mask k.value c.args.mask has in
    let below = and_le_l x c.args.mask in
    let within = and_le_l c.args.mask k.mask in
    let swap = and_comm c.args.mask k.mask in
    omega (arith, above, below, within, swap, fits, c.saturating_add.ensures)
