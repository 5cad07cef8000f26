use Rattle.seccomp_compare.proofs.Masks.{under_part}
use Rattle.seccomp_compare.proofs.values.order_mask.Goals as goal

pub returns-clause-same : goal.returns-clause-same
returns-clause-same c = λ x fits. under_part x c.args.bounds c.args.mask c.ranges.bounds.fits c.if-mask-bounds.false
