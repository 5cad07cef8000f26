use Rattle.seccomp_tree.proofs.Common.{length-take-le, length-drop, IfOk-weaker, take_rest, All-take, length, arith, drop, IsIn, Step, ◌-◌}
use Rattle.seccomp_tree.proofs.Common.{sym, take, ◌/◌, ◌<◌, ◌^◌, ℕ, ◌∙◌, ◌≤◌}
use Rattle.seccomp_tree.proofs.Trees.{tree_halves, tree_single, tree_first, tree_out, rest_of, none, start_fits}
use Rattle.seccomp_tree.proofs.{Begun.over_more, Begun.parts, Runs.is_in_grown}
use Rattle.seccomp_tree.proofs.code.Code.+tree.Goals as goal

pub returns-then-steps-eq1 : goal.returns-then-steps-eq1
returns-then-steps-eq1 t c = tree_single c.args.self.now c.args.steps.now c.args.most _ c.if-steps-eq1.true c.requires.inside

pub tree-requires : goal.tree-requires
tree-requires t c =
    let steps = c.args.steps.now in
    let n = c.middle-half.result in
    let half = c.middle-half.ensures in
    let h = rest_of c.args.self.now n t steps half.some half.within (omega (arith, c.decreases)) c.requires.over c.requires.inside in
    let few : length (take (length steps - n) (drop n steps)) ≤ c.args.most - c.args.most / 2 =
    rw (take_rest steps n) (omega (arith, length-drop n steps, half.high)) in
    (h.0, (h.1.0, (few, h.1.1)))

pub tree-requires-then-needed-gt6 : goal.tree-requires-then-needed-gt6
tree-requires-then-needed-gt6 t c =
    let steps = c.args.steps.now in
    let n = c.middle-half.result in
    let half = c.middle-half.ensures in
    let long = length-take-le n steps (omega (arith, half.within)) in
    let halves = parts (2 ^ 32) n steps none half.some half.within c.requires.over in
    let over = over_more _ (2 ^ 32) _ (omega (arith, halves.within)) halves.before in
    let first = All-take (λ (x : Step). IsIn c.args.self.now x.target) n steps c.requires.inside in
    let grown = λ (k : ℕ) (d : Step) (lt : k < length (take n steps)). is_in_grown _ c.in_ok-upper.ensures.grows (first k d lt) in
    (omega (arith, long, half.within, c.decreases), (omega (arith, long, half.some), (omega (arith, long, half.low), (over, grown))))

pub returns-then-needed-gt6 : goal.returns-then-needed-gt6
returns-then-needed-gt6 t c =
    let steps = c.args.steps.now in
    IfOk-weaker c.test.result _ _ (λ u h. tree_halves steps c.args.most c.middle-half.result _ c.middle-half.ensures c.requires.few
    c.requires.over (omega (arith, c.requires.some))
    (omega (arith, c.tests-needed.ensures, c.if-needed-gt6.true))
    (rw (take_rest steps c.middle-half.result) at c.in_ok-upper.ensures) c.in_ok-lower.ensures h) c.test.ensures

pub tree-requires-then-stands_out : goal.tree-requires-then-stands_out
tree-requires-then-stands_out t c =
    let steps = c.args.steps.now in
    let long : 3 ≤ length steps = grind (arith, sym c.stands_out.ensures ∙ c.if-stands_out.true) in
    let h = rest_of c.args.self.now 2 t steps (omega arith) (omega (arith, long)) (omega (arith, c.decreases)) c.requires.over
    c.requires.inside in
    let few : length (take (length steps - 2) (drop 2 steps)) ≤ c.args.most =
    rw (take_rest steps 2) (omega (arith, length-drop 2 steps, c.requires.few)) in
    (h.0, (h.1.0, (few, h.1.1)))

pub returns-then-stands_out : goal.returns-then-stands_out
returns-then-stands_out t c =
    let steps = c.args.steps.now in
    IfOk-weaker c.test-then-stands_out.result _ _ (λ u h. tree_out steps c.args.most _ c.requires.few c.requires.over
    (sym c.stands_out.ensures ∙ c.if-stands_out.true)
    (omega (arith, c.tests-needed.ensures, c.if-needed-gt6.false)) (rw (take_rest steps 2) at c.in_ok-rest.ensures) h)
    c.test-then-stands_out.ensures

pub returns : goal.returns
returns t c =
    let steps = c.args.steps.now in
    IfOk-weaker c.test-2.result _ _
    (λ u h. tree_first steps c.args.most _ c.requires.few (omega (arith, c.requires.some)) c.requires.over
    (sym c.stands_out.ensures ∙ c.if-stands_out.false)
    (omega (arith, c.tests-needed.ensures, c.if-needed-gt6.false)) (rw (take_rest steps 1) at c.in_ok-rest-2.ensures) h) c.test-2.ensures

pub overflow_cast-steps : goal.overflow_cast-steps
overflow_cast-steps t c = grind (arith, start_fits)

pub overflow_cast-steps-then-stands_out : goal.overflow_cast-steps-then-stands_out
overflow_cast-steps-then-stands_out t c = grind (arith, start_fits)

pub overflow_cast-steps-2 : goal.overflow_cast-steps-2
overflow_cast-steps-2 t c = grind (arith, start_fits)
