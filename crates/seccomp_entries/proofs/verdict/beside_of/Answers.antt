use Rattle.std.proofs.Common.{◌≡◌, [], ◌∷◌, ◌++◌, Bor, List, map, length, ap, ◌∙◌, sym, subst}
use Rattle.std.specs.Prelude.{All}
use Rattle.std.proofs.lemmas.List.{map-append}
use Rattle.std.proofs.lemmas.List.Elements.{All-push}
use Rattle.std.proofs.lemmas.Result.{IfOk-weaker}
use Rattle.seccompiler.specs.Policy.{Rule}
use Rattle.seccompiler.specs.declared.condition.SeccompCondition.{SeccompCondition}
use Rattle.seccomp_compare.specs.Cover.{Covers}
use Rattle.seccomp_entries.specs.Verdicts.{AreBeside, IsRuleBeside}
use Rattle.seccomp_entries.proofs.Beside.{by_rules, meets_other, of_entry}
use Rattle.seccomp_entries.proofs.verdict.beside_of.Goals as goal

pub returns-in-Covered : goal.returns-in-Covered
returns-in-Covered c = λ r call.
    let own = c.args.own.now in
    let few : List Rule = map (λ q. q.now) c.loop.few.items in
    meets_other c.args.arch c.args.entries.now c.args.place c.args.most own few c.loop.invariant.few r call
    ((subst (Covers c.args.arch own.number own.conditions few c.args.most) c.in-Covered.is c.loop.invariant.says) r
    (of_entry c.args.arch c.args.entries.now c.args.place c.args.most own r call))

pub loop-preserved : goal.loop-preserved
loop-preserved c =
    let own = c.args.own.now in
    let rule = λ (q : Bor (List SeccompCondition)). q.now in
    let old = c.loop.few.items in
    let one = c.in-Some.rule in
    let Own = IsRuleBeside c.args.entries.now c.args.place own.number in
    let items : c.push.new.self.items ≡ old ++ one ∷ [] = c.in_ok-push-in-Escapes.ensures.items in
    let says = subst (Covers c.args.arch own.number own.conditions (map rule old) c.args.most) c.in-Escapes.is c.loop.invariant.says in
    let beside : Own one.now =
    subst (λ n. IsRuleBeside c.args.entries.now c.args.place n one.now) says.0.number_is c.in-Some.ensures.some in
    record {
      few = subst (All Own) (sym (ap (map rule) items ∙ map-append rule old (one ∷ [])))
          (All-push Own (map rule old) one.now c.loop.invariant.few beside);
      says = subst (λ (qs : List (Bor (List SeccompCondition))).
          Covers c.args.arch own.number own.conditions (map rule qs) c.args.most c.in_ok-answer-in-Escapes.answer) c.deref.ensures.value
          c.in_ok-answer-in-Escapes.ensures;
    }

pub returns : goal.returns
returns c =
    let entries = c.args.entries.now in
    let own = c.args.own.now in
    let rules : List Rule = map (λ q. q.now) c.in_ok-others.others.items in
    IfOk-weaker c.cover_at.result _ _ (λ cover says.
    by_rules c.args.arch entries c.args.place c.args.most own rules
    (subst (λ n. AreBeside entries c.args.place n (length entries) rules) c.number_of.ensures c.in_ok-others.ensures) cover
    (subst (λ (qs : List (Bor (List SeccompCondition))).
    Covers c.args.arch own.number own.conditions (map (λ q. q.now) qs) c.args.most cover) c.deref-2.ensures.value says))
    c.cover_at.ensures
