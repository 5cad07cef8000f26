use Rattle.seccomp_tree.proofs.Common.{part_of, arith, rules, ◌%◌, ◌∙◌, ◌≡◌, ◌≤◌}
use Rattle.seccomp_tree.proofs.Begun.{numbers_many, laying_none, laying_on, laid_all, byte_is}
use Rattle.seccomp_tree.specs.Code.{numbers_of}
use Rattle.seccomp_tree.proofs.steps.laid.Goals.{After-from}
use Rattle.seccomp_tree.proofs.steps.laid.Goals as goal

size_is : (c : After-from) → c.numbers_of-size.result ≡ numbers_of c.args.condition.now.arg_len
size_is c = c.numbers_of-size.ensures ∙ search rules

-- what counts of the value
value_is : (c : After-from)
    → c.from.result % c.numbers_of-size.result ≡ part_of c.args.condition.now.arg_len c.args.condition.now.value
value_is c = rw (c.from.ensures, c.value.ensures, size_is c) (grind (arith, rw c.value.ensures at c.value.type_inv))

pub loop-number-init : goal.loop-number-init
loop-number-init c =
    let b = (goal.at.loop-number-init c).After-from in
    let value = value_is b in
    rw c.in_ok-steps.ensures.items (laying_none c.args.condition.now c.args.target c.args.other
    (omega (arith, value, size_is b, numbers_many c.args.condition.now.arg_len)))

pub loop-number-preserved : goal.loop-number-preserved
loop-number-preserved c =
    let b = (goal.at.loop-number-preserved c).After-from in
    let is = rw (c.operator.ensures, value_is b) at c.compares-is_met.ensures in
    laying_on c.requires.plain c.loop-number.invariant (rw (size_is b) at c.loop-number-test.true)
    (rw (c.from-in-loop-number.ensures ∙ byte_is _, value_is b, size_is b) at c.turn-number.ensures)
    (rw (← is) (search rules)) c.in_ok-push_step.ensures

pub returns : goal.returns
returns c =
    let b = (goal.at.returns c).After-from in
    let h = c.loop-number.invariant in
    let all : numbers_of c.args.condition.now.arg_len ≤ c.loop-number.number = rw (size_is b) at c.loop-number-test.false in
    laid_all h all c.requires.plain
