use Rattle.seccomp_tree.proofs.Common.{IfOk-weaker, length-take-le, length-drop, take_rest, arith, length, ◌/◌}
use Rattle.seccomp_tree.proofs.Meeting.{alike_take, alike_drop, run_halves}
use Rattle.seccomp_tree.proofs.rules.+run_steps.Goals as goal

pub run_steps-requires : goal.run_steps-requires
run_steps-requires t c =
    let run = c.args.run.now in
    let half = length run / 2 in
    (omega (arith, c.decreases, length-take-le half run (omega arith)), alike_take c.args.like.now half run c.requires)

pub run_steps-requires-2 : goal.run_steps-requires-2
run_steps-requires-2 t c =
    let run = c.args.run.now in
    let half = length run / 2 in
    rw (take_rest run half) (omega (arith, c.decreases, length-drop half run), alike_drop c.args.like.now half run c.requires)

pub returns : goal.returns
returns t c =
    let run = c.args.run.now in
    let half = length run / 2 in
    let back = rw (take_rest run half) at c.in_ok-back.ensures in
    IfOk-weaker c.filled.result _ _ (λ steps h. run_halves c.args.like.now half run _ _ steps.items c.in_ok-front.ensures back
    (rw (c.deref.ensures.value, c.deref-2.ensures.value, c.arg_len.ensures) at h)) c.filled.ensures
