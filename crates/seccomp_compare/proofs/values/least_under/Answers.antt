use Rattle.std.proofs.Common.{arith, bit_and}
use Rattle.std.proofs.lemmas.Nat.{and_le_l}
use Rattle.seccomp_compare.proofs.Masks.{known_below}
use Rattle.seccomp_compare.proofs.values.least_under.Goals as goal

pub returns-in-Some : goal.returns-in-Some
returns-in-Some c = λ x fits has.
    let s = c.args.values in
    let by_bits = known_below x s.known s.value c.args.mask has.bits in
    let small = and_le_l x s.mask in
    let by_order = c.in-Some.ensures.order s.least (bit_and x s.mask) has.least (omega (arith, small, fits)) in
    let same = c.in-Some.ensures.same x fits in
    omega (arith, by_bits, by_order, same, c.max.ensures)

pub returns-in-None : goal.returns-in-None
returns-in-None c = λ x fits has. known_below x c.args.values.known c.args.values.value c.args.mask has.bits
