use Rattle.seccomptool.proofs.Common.{take}
use Rattle.seccomptool.specs.Ends.{EndsOnEach}
use Rattle.seccomptool.specs.Outside.{Does}
use Rattle.seccomptool.proofs.shell.carry_out_each.Given as goal

abbrev pub invariant-loop-subject : goal.invariant-loop-subject
invariant-loop-subject g l =
    Does (g.O.Outside.did l.fn.out l.out)
    (λ events. EndsOnEach g.O.Outside.reads l.command (take l.subject-index l.subjects) events l.status)
