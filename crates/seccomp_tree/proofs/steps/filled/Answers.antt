use Rattle.seccomp_tree.proofs.Common.{arith, rules, drop, ◌∙◌, ◌≡◌}
use Rattle.seccomp_tree.proofs.Begun.{numbers_many, filling_none, filling_on, filling_up, first_start, filled_all, byte_is, moves}
use Rattle.seccomp_tree.specs.Code.{numbers_of}
use Rattle.seccomp_tree.proofs.steps.filled.Goals.{After-from}
use Rattle.seccomp_tree.proofs.steps.filled.Goals as goal

pub loop-number-init : goal.loop-number-init
loop-number-init c = rw c.in_ok-steps.ensures.items (filling_none (numbers_of c.args.length) c.args.front.now c.args.back.now
    (omega (arith, numbers_many c.args.length)) c.requires.front c.requires.back)

-- where the next steps start
end_is : (c : After-from) → c.map_or-end.result ≡ first_start (numbers_of c.args.length) (drop 1 c.loop-number.ahead.now)
end_is c = search rules

other_end_is : (c : After-from) → c.map_or-other_end.result ≡ first_start (numbers_of c.args.length) (drop 1 c.loop-number.behind.now)
other_end_is c = search rules

pub loop-number-smaller : goal.loop-number-smaller
loop-number-smaller c =
    let b = (goal.at.loop-number-smaller c).After-from in
    let up = filling_up c.min-number.result c.map_or-end.result c.map_or-other_end.result c.loop-number.invariant (omega arith) (end_is b)
    (other_end_is b) (omega arith) in
    omega (arith, up, c.numbers_of-size.ensures)

pub loop-number-preserved : goal.loop-number-preserved
loop-number-preserved c =
    let b = (goal.at.loop-number-preserved c).After-from in
    filling_on _ _ _ _ c.loop-number.invariant (omega arith) c.map_or-end.result c.map_or-other_end.result (end_is b) (other_end_is b)
    (omega arith, omega arith, omega arith) (rw c.filled_by-target.ensures at c.in_ok-push_step.ensures)
    (moves _ c.min-number.result c.map_or-end.result c.loop-number.ahead.now (c.from.ensures ∙ byte_is _))
    (moves _ c.min-number.result c.map_or-other_end.result c.loop-number.behind.now (c.from-in-loop-number.ensures ∙ byte_is _))

pub returns : goal.returns
returns c = filled_all c.loop-number.invariant (omega arith)
