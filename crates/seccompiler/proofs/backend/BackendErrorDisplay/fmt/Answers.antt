use Rattle.std.proofs.Common.{◌≡◌, ap}
use Rattle.seccompiler.specs.Texts.{backend_text}
use Rattle.seccompiler.proofs.backend.BackendErrorDisplay.fmt.Goals.{in-EmptyRule, in-IdenticalActions, in-InvalidArgumentNumber}
use Rattle.seccompiler.proofs.backend.BackendErrorDisplay.fmt.Goals.{in-OutOfMemory}
use Rattle.seccompiler.proofs.backend.BackendErrorDisplay.fmt.Goals as goal

pub returns-in-FilterTooLarge : goal.returns-in-FilterTooLarge
returns-in-FilterTooLarge g c = rw c.in-FilterTooLarge.is (record { writes = c.write.ensures.writes; styled = tt })

pub returns-in-InvalidTargetArch : goal.returns-in-InvalidTargetArch
returns-in-InvalidTargetArch g c =
    rw c.in-InvalidTargetArch.is (record { writes = c.write-in-InvalidTargetArch.ensures.writes; styled = tt })

pub returns-in-InvalidSyscallNumber : goal.returns-in-InvalidSyscallNumber
returns-in-InvalidSyscallNumber g c =
    rw c.in-InvalidSyscallNumber.is (record { writes = c.write-in-InvalidSyscallNumber.ensures.writes; styled = tt })

pub returns : goal.returns
returns g c =
    let is : c.match-self.text.now ≡ backend_text c.args.self.now =
    elim c.match-self.branch [
      | in-EmptyRule w ↦ rw w.in-EmptyRule.is (ap (λ text. text.now) w.text-is)
      | in-IdenticalActions w ↦ rw w.in-IdenticalActions.is (ap (λ text. text.now) w.text-is)
      | in-InvalidArgumentNumber w ↦ rw w.in-InvalidArgumentNumber.is (ap (λ text. text.now) w.text-is)
      | in-OutOfMemory w ↦ rw w.in-OutOfMemory.is (ap (λ text. text.now) w.text-is)
    ] in record { writes = rw is at c.write_str.ensures.writes; styled = tt }
