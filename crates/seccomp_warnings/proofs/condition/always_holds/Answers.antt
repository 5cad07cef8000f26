use Rattle.std.proofs.Common.{◌≡◌, ap, arith, rules, subst, sym}
use Rattle.seccomp_warnings.specs.AnyArgument.{HoldsFor, condition_in, last_of}
use Rattle.seccomp_warnings.proofs.ConstantConditions.{for_all}
use Rattle.seccomp_warnings.proofs.condition.always_holds.Goals as goal

pub returns : goal.returns
returns c =
    let k = c.args.comparison in
    let holds = HoldsFor (condition_in k) in (
      λ yes. let at = c.holds_at.ensures.0 yes in
          λ x small. for_all k.arg_len k.value x small k.operator at.0 at.1 at.2 (subst holds c.last_of.ensures at.3),
      λ all. c.holds_at.ensures.1
          (all 0 (omega arith), all 1 (omega arith), all k.value (search rules), all c.last_of.result (search rules)),
    )
