use Rattle.std.proofs.Common.{◌∷◌, [], Bor, List, map, sym, ap, ◌∙◌, subst}
use Rattle.std.specs.Prelude.{All, Contains}
use Rattle.std.proofs.lemmas.List.{map-append}
use Rattle.std.proofs.lemmas.List.Elements.{All-push}
use Rattle.seccompiler.specs.Policy.{Rule}
use Rattle.seccompiler.specs.declared.condition.SeccompCondition.{SeccompCondition}
use Rattle.seccomp_compare.proofs.KnownBits.{contains_map}
use Rattle.seccomp_compare.proofs.rules.near_of.Goals as goal

pub loop-other-preserved : goal.loop-other-preserved
loop-other-preserved c =
    let now = λ (q : Bor (List SeccompCondition)). q.now in
    let others : List Rule = map now c.args.others.now in
    let old = c.loop-other.near.items in
    let one = c.other-item.result in
    subst (All (Contains others)) (sym (ap (map now) c.in_ok-push.ensures.items ∙ map-append now old (one ∷ [])))
    (All-push (Contains others) (map now old) one.now c.loop-other.invariant
    (contains_map now c.args.others.now c.loop-other.other-index one c.loop-other-test.true c.other-item.is))
