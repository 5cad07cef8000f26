use Rattle.std.proofs.Common.{◌<◌, ◌^◌, arith, bit_and, rules}
use Rattle.seccomp_compare.proofs.values.most_under.Goals as goal

pub returns-in-Some : goal.returns-in-Some
returns-in-Some c = λ x fits has.
    let s = c.args.values in
    let by_bits = c.most_by_bits-by_bits.ensures x fits has.bits in
    let most_fits : s.most < 2 ^ 32 = search rules in
    let by_order = c.in-Some.ensures.order (bit_and x s.mask) s.most has.most most_fits in
    let same = c.in-Some.ensures.same x fits in
    omega (arith, by_bits, by_order, same, c.min.ensures)
