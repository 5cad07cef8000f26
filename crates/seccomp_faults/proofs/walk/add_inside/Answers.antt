use Rattle.std.proofs.Common.{All, sym, subst}
use Rattle.seccomp_faults.proofs.Parts.{IsFault, pushed, split}
use Rattle.seccomp_faults.proofs.walk.add_inside.Goals as goal

pub loop-fault-init : goal.loop-fault-init
loop-fault-init c = λ target outer inner d there inside leads each old.
    (subst (All (IsFault target inner there)) (sym c.into_iter-fault-iterator.ensures.into_iter_gives.0) each, old)

pub loop-fault-preserved : goal.loop-fault-preserved
loop-fault-preserved c = λ target outer inner d there inside leads each old.
    let (left, found) = c.loop-fault.invariant target outer inner d there inside leads each old in
    let (first, rest) = split (IsFault target inner there) _ _ _ left c.in-Some.ensures.steps.0 in (
      rest,
      pushed (IsFault target outer d) c.loop-fault.found.items c.push.new.self.items _ c.in_ok-push.ensures.items found
          (c.in_ok-led.ensures target outer inner d there inside leads first),
    )

pub returns : goal.returns
returns c = λ target outer inner d there inside leads each old.
    (c.loop-fault.invariant target outer inner d there inside leads each old).1
