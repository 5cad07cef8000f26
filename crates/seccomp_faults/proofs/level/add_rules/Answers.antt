use Rattle.seccomp_faults.specs.Table.{rows_of}
use Rattle.seccomp_faults.proofs.Parts.{row_at, view}
use Rattle.seccomp_faults.proofs.level.add_rules.Goals as goal

pub loop-rule-preserved : goal.loop-rule-preserved
loop-rule-preserved c = λ is_object old.
    let there = row_at c.rules_of-rule-items.result.now (rows_of c.args.form) c.loop-rule.rule-index _ c.rules_of-rule-items.ensures
    c.loop-rule-test.true in
    c.in_ok-add.ensures c.args.target c.args.form (view c.args.value.now) (c.in_ok-by_rule.ensures c.args.form there is_object)
    (c.loop-rule.invariant is_object old)
