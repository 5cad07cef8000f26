use Rattle.std.proofs.Common.{◌≡◌, sym, subst}
use Rattle.seccompiler_c.specs.Messages.{IsTextOf}
use Rattle.seccompiler_c.proofs.text.shown.Goals as goal

pub returns-in-Ok : goal.returns-in-Ok
returns-in-Ok c =
    let P = IsTextOf (λ t. t ≡ c.args.target) c.args.policy.now c.args.fault.now in
    record { text = c.as_str.result.now; holds = subst P (sym c.as_str.ensures.value) c.in_ok-text.ensures; shown = c.in-Ok.ensures }
