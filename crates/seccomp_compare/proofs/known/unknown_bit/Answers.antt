use Rattle.std.proofs.Common.{◌≡◌, sym, subst}
use Rattle.std.specs.Int.{bit_at}
use Rattle.seccomp_compare.proofs.KnownBits.{top_unknown}
use Rattle.seccomp_compare.proofs.known.unknown_bit.Goals as goal

pub returns-clause-unknown : goal.returns-clause-unknown
returns-clause-unknown c = subst (λ n. bit_at c.args.known.mask n ≡ 0) (sym c.saturating_sub.ensures)
    (top_unknown c.args.known.mask c.args.mask c.ranges.mask.fits c.requires).0

pub returns-clause-of_mask : goal.returns-clause-of_mask
returns-clause-of_mask c = subst (λ n. bit_at c.args.mask n ≡ 1) (sym c.saturating_sub.ensures)
    (top_unknown c.args.known.mask c.args.mask c.ranges.mask.fits c.requires).1
