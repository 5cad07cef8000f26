use Rattle.std.proofs.Common.{◌≡◌, ◌++◌, ◌∷◌, [], arith}
use Rattle.std.proofs.lemmas.Grind.{common_steps}
use Rattle.seccomp_learn.proofs.Seen.{seen_more, unseen_more, all_seen, none_seen}
use Rattle.seccomp_learn.proofs.conditions.conditions_of.Goals as goal
use Rattle.seccomp_learn.proofs.conditions.conditions_of.Goals.{in-Some+in_ok-push-in-Some, in-None}

pub loop-each-preserved : goal.loop-each-preserved
loop-each-preserved c = λ r.
    let conditions = c.loop-each.conditions.items in
    elim c.match-condition_of.branch [
      | in-Some+in_ok-push-in-Some w ↦
          let grown : c.match-condition_of.conditions.items ≡ conditions ++ w.in-Some.condition ∷ [] = grind (arith, common_steps) in
          seen_more r c.args.observation.now conditions _ w.in-Some.condition c.args.kept.now c.loop-each.each-index _
          c.loop-each-test.true grown (c.loop-each.invariant r) (w.in-Some.ensures.some r)
      | in-None w ↦
          let same : c.match-condition_of.conditions.items ≡ conditions = grind (arith, common_steps) in
          unseen_more r c.args.observation.now conditions _ c.args.kept.now c.loop-each.each-index _
          c.loop-each-test.true same (c.loop-each.invariant r) (w.in-None.ensures.none r)
    ]

pub returns-then-is_empty : goal.returns-then-is_empty
returns-then-is_empty c = λ r.
    let none : c.loop-each.conditions.items ≡ [] = grind (arith, common_steps) in
    none_seen r c.args.observation.now _ _ none
    (all_seen r c.args.observation.now _ c.args.kept.now _ c.loop-each-test.false (c.loop-each.invariant r))

pub returns : goal.returns
returns c = λ r. all_seen r c.args.observation.now _ c.args.kept.now _ c.loop-each-test.false (c.loop-each.invariant r)
