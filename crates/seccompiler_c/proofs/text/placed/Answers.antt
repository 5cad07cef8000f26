use Rattle.std.proofs.Common.{subst}
use Rattle.seccomp_faults.specs.Checks.{IsAtOf}
use Rattle.seccompiler_c.proofs.text.Places.{found_at}
use Rattle.seccompiler_c.proofs.text.placed.Goals as goal

pub returns-in-Ok-text : goal.returns-in-Ok-text
returns-in-Ok-text c =
    let at = subst (λ all. IsAtOf c.args.cause all c.in_ok-first.first) c.deref.ensures.value c.in_ok-first.ensures in
    found_at c.args.target c.args.policy.now c.args.cause c.in-Ok.all.items c.in_ok-first.first c.in-Ok.ensures at
