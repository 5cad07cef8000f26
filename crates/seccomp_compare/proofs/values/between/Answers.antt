use Rattle.std.proofs.Common.{◌≤◌, sym, subst}
use Rattle.std.specs.Int.Bits.{and_zero_r}
use Rattle.seccomp_compare.proofs.Masks.{under_all}
use Rattle.seccomp_compare.proofs.values.between.Goals as goal

pub returns-clause-words : goal.returns-clause-words
returns-clause-words c = λ x fits.
    let all = under_all x fits in (
      λ has. (subst (λ n. c.args.least ≤ n) all has.least, subst (λ n. n ≤ c.args.most) all has.most),
      λ both. record {
        bits = and_zero_r x;
        least = subst (λ n. c.args.least ≤ n) (sym all) both.0;
        most = subst (λ n. n ≤ c.args.most) (sym all) both.1;
      },
    )
