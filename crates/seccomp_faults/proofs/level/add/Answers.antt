use Rattle.seccomp_faults.proofs.Parts.{IsPart, pushed}
use Rattle.seccomp_faults.proofs.level.add.Goals as goal

pub returns-in_ok-push-in-Some : goal.returns-in_ok-push-in-Some
returns-in_ok-push-in-Some c = λ target form d is each.
    pushed (IsPart target form d) c.args.parts.now.items c.push.new.self.items c.in-Some.part c.in_ok-push-in-Some.ensures.items each
    (rw c.in-Some.is at is)
