use Rattle.std.proofs.Common.{Bor, List, map, subst}
use Rattle.seccompiler.specs.Policy.{Rule}
use Rattle.seccompiler.specs.declared.condition.SeccompCondition.{SeccompCondition}
use Rattle.seccomp_compare.specs.Cover.{Covers}
use Rattle.seccomp_compare.proofs.RulesUnder.{some_of}
use Rattle.seccomp_compare.proofs.rules.cover_by.Goals as goal

pub returns-in-Covered : goal.returns-in-Covered
returns-in-Covered c = λ r call.
    let now = λ (q : Bor (List SeccompCondition)). q.now in
    let others : List Rule = map now c.args.others.now in
    let near : List Rule = map now c.in_ok-near.near.items in
    let covers = subst (λ (qs : List (Bor (List SeccompCondition))). Covers c.args.arch c.args.number c.args.rule.now (map now qs)
    c.args.most c.in_ok-cover_of.field-0) c.deref.ensures.value c.in_ok-cover_of.ensures in
    some_of others near r c.in_ok-near.ensures
    ((subst (Covers c.args.arch c.args.number c.args.rule.now near c.args.most) c.in-Covered.is covers) r call)
