use Rattle.std.proofs.Common.{rules}
use Rattle.std.proofs.lemmas.List.Elements.{All-push}
use Rattle.seccomp_warnings.specs.AbiEvasions.{IsBetween}
use Rattle.seccomp_warnings.specs.declared.profile.abi.AbiEvasion.{AbiEvasion}
use Rattle.seccomp_warnings.proofs.profile.abi.found_by.Goals.{in-Some+else-not-is_told, in-Some+then-not-is_told+in_ok-push, in_default}
use Rattle.seccomp_warnings.proofs.profile.abi.found_by.Goals as goal

pub loop-denied-preserved : goal.loop-denied-preserved
loop-denied-preserved c =
    let P = IsBetween c.args.sides.abi c.args.sides.own.now c.args.sides.others.now in
    elim c.match-shown_by.branch [
      | in-Some+then-not-is_told+in_ok-push w ↦
          let v : AbiEvasion = w.in-Some.evasion in
          let is : P v = search rules in
          rw (w.all-is, w.in_ok-push.ensures.items) (All-push P c.loop-denied.all.items v c.loop-denied.invariant is)
      | in-Some+else-not-is_told w ↦ rw w.all-is c.loop-denied.invariant
      | in_default w ↦ rw w.all-is c.loop-denied.invariant
    ]
