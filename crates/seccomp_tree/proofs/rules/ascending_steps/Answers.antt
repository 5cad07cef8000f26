use Rattle.std.proofs.lemmas.Grind.{common_steps}
use Rattle.seccomp_tree.proofs.Common.{Ruling, arith, drop, ap, ◌+◌, ◌∷◌, ◌≡◌}
use Rattle.seccomp_tree.proofs.{Decided.drop_at, Meeting.alike_drop, Meeting.ascending_on}
use Rattle.seccomp_tree.proofs.rules.ascending_steps.Goals as goal

pub loop-ruling-preserved : goal.loop-ruling-preserved
loop-ruling-preserved c =
    let i = c.loop-ruling.ruling-index in
    let run = c.args.run.now in
    let d = c.ruling-item.result in
    let here : drop i run ≡ d ∷ drop (i + 1) run = drop_at run i d c.loop-ruling-test.true c.ruling-item.is in
    let like = rw here at (alike_drop c.args.like.now i run c.requires) in
    let value : c.ruling.inside.value ≡ d.value = ap (λ (x : Ruling). x.value) c.ruling.view_is in
    ascending_on c.loop-ruling.invariant here c.in-Some.ensures like.0 (omega (arith, c.ruling.invariant, value))
    (omega (arith, c.if-value-next.false)) c.in_ok-open_to.ensures (rw value at c.in_ok-push_step.ensures)

pub returns : goal.returns
returns c = grind (arith, common_steps)

pub loop-ruling-init : goal.loop-ruling-init
loop-ruling-init c = grind (arith, common_steps)
