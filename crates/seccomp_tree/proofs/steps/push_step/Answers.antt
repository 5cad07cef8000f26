use Rattle.seccomp_tree.proofs.Common.{nat_tests, length, arith, rules, Step, sym, ◌-◌, ◌∙◌, ◌≡◌, ◌≢◌, ◌≤◌, ap}
use Rattle.seccomp_tree.proofs.Begun.{pushed_more, pushed_same}
use Rattle.seccomp_tree.proofs.steps.push_step.Goals as goal

pub returns-else-ne : goal.returns-else-ne
returns-else-ne c =
    let some : 1 ≤ length c.args.steps.now.items = grind (arith, nat_tests, c.is_empty.ensures, c.if-is_empty.false) in
    pushed_same c.args.steps.now.items c.args.start _ c.args.target _ c.requires.below (omega (arith, c.len.ensures))
    (ap (λ (x : Step). x.target) (sym c.index.ensures) ∙ search rules)

pub returns-in_ok-push : goal.returns-in_ok-push
returns-in_ok-push c =
    let old = c.args.steps.now.items in
    let x : Step = record { start = c.args.start; target = c.args.target } in
    rw c.in_ok-push.ensures.items (pushed_more old x c.requires.below (elim c.then-is_empty.branch [
      | goal.then-is_empty-via-then-is_empty w ↦ λ n some. absurd (grind (arith, nat_tests, c.is_empty.ensures, w.if-is_empty.true, some))
      | goal.then-is_empty-via-else-is_empty+then-ne w ↦ λ n last.
          let other : w.index.result.now.target ≢ c.args.target = search rules in
          let at : w.len.result - 1 ≡ n = omega (arith, w.len.ensures) in
          (w.index.result.now, rw (← at) (λ same. other (ap (λ (y : Step). y.target) w.index.ensures ∙ same)))
    ]))
