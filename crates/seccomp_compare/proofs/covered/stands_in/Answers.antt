use Rattle.std.proofs.lemmas.List.Elements.{Decides-contains, contains_decides}
use Rattle.seccompiler.specs.contracts.condition.SeccompConditionPartialEq.TheImpl as condition
use Rattle.seccompiler.specs.contracts.condition.SeccompConditionEqualByParts.TheImpl.Laws as condition_law
use Rattle.seccomp_compare.proofs.covered.stands_in.Goals as goal

pub returns : goal.returns
returns c =
    let rule = c.args.rule.now in
    let one = c.args.condition.now in
    Decides-contains rule one c.contains.result
    (contains_decides condition.ghosts.eq condition_law.decides-law rule one c.contains.result c.contains.ensures.cases)
