use Rattle.std.proofs.Common.{◌≡◌, codes, rules, sym, subst}
use Rattle.std.specs.Cmp.Rules.{comparing}
use Rattle.serde_json.specs.Find.{get}
use Rattle.seccompiler.specs.JsonShape.{IsOneAction}
use Rattle.seccomp_faults.proofs.Values.{actions_are}
use Rattle.seccomp_faults.proofs.Parts.{view}
use Rattle.seccomp_faults.proofs.part.same_actions.Goals as goal

pub returns-in-Some-Some : goal.returns-in-Some-Some
returns-in-Some-Some c = λ target outer there.
    let a = c.in-Some-Some.mismatch in
    let b = c.in-Some-Some.matching in
    let d = view c.args.value.now in
    let same : a ≡ b = search (comparing, rules) in
    let first : IsOneAction (get (codes "mismatch_action") d) (get (codes "default_action") d) a =
    actions_are _ _ _ _ c.one_action-mismatch.result a c.one_action-mismatch.ensures.found c.in-Some-Some.is-0 c.get.ensures
    c.get-2.ensures in
    let second : IsOneAction (get (codes "match_action") d) (get (codes "filter_action") d) b =
    actions_are _ _ _ _ c.one_action-matching.result b c.one_action-matching.ensures.found c.in-Some-Some.is-1 c.get-3.ensures
    c.get-4.ensures in
    (there, (a, first, subst (IsOneAction (get (codes "match_action") d) (get (codes "filter_action") d)) (sym same) second))
