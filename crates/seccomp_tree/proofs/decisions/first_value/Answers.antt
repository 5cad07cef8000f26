use Rattle.seccomp_tree.proofs.Common.{rules, IsTrue, ◌↔◌, ◌≡◌, ◌+◌, ◌∷◌, drop, sym, ap, ◌∙◌, false≢true, RuleHolds, Ruling, here, behind}
use Rattle.seccomp_tree.proofs.{Common.nothing, Common.drop_all, Decided.drop_at}
use Rattle.seccomp_tree.proofs.decisions.first_value.Goals.{After-all}
use Rattle.seccomp_tree.proofs.decisions.first_value.Goals as goal

-- the ruling, and those behind it
ruling_at : (c : After-all) → drop c.loop-ruling.ruling-index c.args.rulings.now
    ≡ c.ruling-item.result ∷ drop (c.loop-ruling.ruling-index + 1) c.args.rulings.now
ruling_at c = drop_at c.args.rulings.now c.loop-ruling.ruling-index c.ruling-item.result c.loop-ruling-test.true c.ruling-item.is

-- whether its conditions hold
all_hold : (c : After-all) → IsTrue c.all.result ↔ RuleHolds c.ruling-item.result.conditions c.args.call.now
all_hold c = rw (← c.deref.ensures.value ∙ ap (λ (d : Ruling). d.conditions) c.ruling.view_is) (search rules)

pub returns-then-all : goal.returns-then-all
returns-then-all c =
    let value : c.ruling.inside.value ≡ c.ruling-item.result.value = ap (λ (d : Ruling). d.value) c.ruling.view_is in
    rw value (c.loop-ruling.invariant _ (rw (ruling_at c.before) (here _ _ ((all_hold c.before).0 c.if-all.true))))

pub loop-ruling-preserved : goal.loop-ruling-preserved
loop-ruling-preserved c = λ w h. c.loop-ruling.invariant w (rw (ruling_at c.before) (behind _ _ w
    (λ holds. false≢true (sym c.if-all.false ∙ (all_hold c.before).1 holds)) h))

pub returns : goal.returns
returns c = c.loop-ruling.invariant _ (rw (drop_all c.loop-ruling.ruling-index c.args.rulings.now c.loop-ruling-test.false) nothing)
