use Rattle.std.proofs.Common.{◌≡◌, rules, Bool, true, subst}
use Rattle.std.specs.Bool.{⊤, MatchBool}
use Rattle.std.proofs.lemmas.Iterator.{YieldsList-from_slice, cases_from_all}
use Rattle.std.proofs.lemmas.List.Elements.{All-from_all_within}
use borrow.Author.Tests.{tests}
use Rattle.seccomp_learn.specs.declared.observation.Observation.{Observation}
use Rattle.seccomp_learn.specs.Observed.{IsSeenApart}
use Rattle.seccomp_learn.proofs.limits.is_new.Goals as goal

where_true : {A : Type 0} (B : Type 0) (b : Bool) → b ≡ true → MatchBool b A B → A
where_true {A} B b is either = subst (λ (own : Bool). MatchBool own A B) is either

pub returns-clause-apart : goal.returns-clause-apart
returns-clause-apart c = λ yes.
    let others = c.args.others.now in
    let IsApart = λ (other : Observation). IsSeenApart c.args.kept.now other c.args.observation.now in
    All-from_all_within IsApart others (where_true _ _ yes (cases_from_all _ _ c.all.result IsApart (λ _. ⊤) c.all.ensures.ran
    (YieldsList-from_slice others cc) (λ x q k. search (rules, tests)) (λ x q k. tt)))
