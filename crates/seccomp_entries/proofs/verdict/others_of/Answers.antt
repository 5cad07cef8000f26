use Rattle.std.proofs.Common.{◌≡◌, ◌+◌, ◌∷◌, [], ◌++◌, List, Bor, map, length, refl, sym, ap, ◌∙◌, subst}
use Rattle.std.proofs.lemmas.List.{map-append}
use Rattle.std.proofs.lemmas.Option.{slice_get_read}
use Rattle.seccompiler.specs.declared.condition.SeccompCondition.{SeccompCondition}
use Rattle.seccomp_entries.specs.Verdicts.{AreBeside}
use Rattle.seccomp_entries.proofs.Beside.{none_more, one_more}
use Rattle.seccomp_entries.proofs.verdict.others_of.Goals.{in-Some+in_ok-push, in_default}
use Rattle.seccomp_entries.proofs.verdict.others_of.Goals as goal

pub loop-index-preserved : goal.loop-index-preserved
loop-index-preserved c =
    let entries = c.args.entries.now in
    let k = c.loop-index.index in
    let e = c.index-entries-index.result in
    let own = λ (q : Bor (List SeccompCondition)). q.now in
    let old = c.loop-index.others.items in
    let there = slice_get_read entries (length entries) k e refl c.loop-index-test.true c.index-entries-index.is in
    elim c.match-rule_at.branch [
      | in-Some+in_ok-push w ↦ (
          let rule = w.in-Some.rule in
          let some = w.in-Some.ensures.some in
          let now : c.match-rule_at.others.items ≡ old ++ rule ∷ [] = rw w.others-is w.in_ok-push.ensures.items in
          subst (AreBeside entries c.args.place c.args.number (k + 1)) (sym (ap (map own) now ∙ map-append own old (rule ∷ [])))
          (one_more entries c.args.place c.args.number k (map own old) e rule.now c.loop-index.invariant there some.0 some.1 some.2))
      | in_default w ↦ (
          let now : c.match-rule_at.others.items ≡ old = rw w.others-is refl in
          subst (λ xs. AreBeside entries c.args.place c.args.number (k + 1) (map own xs)) (sym now)
          (none_more entries c.args.place c.args.number k (map own old) e c.loop-index.invariant there w.in_default.ensures.none))
    ]
