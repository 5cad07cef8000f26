use Rattle.std.proofs.Common.{◌≡◌, ◌^◌, ◌-◌, arith, rules}
use Rattle.seccomp_warnings.proofs.ConstantConditions.{for_none}
use Rattle.seccomp_warnings.proofs.condition.never_holds.Goals as goal

pub returns : goal.returns
returns c =
    let k = c.args.comparison in (
      λ yes. let at = c.fails_at.ensures.0 yes in λ x small. for_none k.arg_len k.value x small k.operator at.0 at.1 at.2 at.3,
      λ none. c.fails_at.ensures.1
          (none 0 (omega arith), none 1 (omega arith), none k.value (search rules), none (2 ^ 64 - 1) (omega arith)),
    )
