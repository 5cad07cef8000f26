use Rattle.std.proofs.Common.{arith}
use Rattle.std.proofs.lemmas.Nat.{and_le_l}
use Rattle.seccomp_compare.proofs.Masks.{known_below}
use Rattle.seccomp_compare.proofs.values.bounded.Goals as goal

pub returns-clause-same : goal.returns-clause-same
returns-clause-same c =
    let s = c.args.values in
    record {
      to = λ x fits has. let small = and_le_l x c.args.mask in
          record { bits = has.bits; least = omega arith; most = omega (arith, small, fits) };
      back = λ x fits has.
          let below = known_below x s.known s.value s.mask has.bits in
          let above = c.most_by_bits.ensures x fits has.bits in
          record {
            bits = has.bits;
            least = omega (arith, below, c.if-values.false);
            most = omega (arith, above, c.if-values-most_by_bits.false);
          };
    }
