use Rattle.std.proofs.Common.{◌≡◌, ◌+◌, ◌∷◌, ◌++◌, ◌∙◌, [], ℕ, List, ap, append_assoc, arith, length, map, rules, subst, sym, take}
use Rattle.std.specs.List.{enumerate_from}
use Rattle.std.proofs.lemmas.List.{map_push, take_all}
use Rattle.seccompiler.specs.Policy.{Condition}
use Rattle.seccomp_entries.specs.Entries.{Entry}
use Rattle.seccomp_warnings.specs.AnyArgument.{comparison_at}
use Rattle.seccomp_warnings.specs.declared.warning.Subject.{Subject}
use Rattle.seccomp_warnings.specs.declared.warning.Subject.TheVariants as subject
use Rattle.seccomp_warnings.proofs.Those.{enumerate_more}
use Rattle.seccomp_warnings.proofs.walk.push_entry.Goals as goal

pub loop-nth-preserved : goal.loop-nth-preserved
loop-nth-preserved c =
    let place = c.args.place in
    let cs : List Condition = c.args.own.now.conditions in
    let begun : List Subject = c.args.subjects.now.items in
    let nth = c.loop-nth.nth in
    let own : Condition = c.condition-item.result in
    let items : List Condition = c.deref-condition-items.result.now in
    let same : items ≡ cs = c.deref-condition-items.ensures.value ∙ ap (λ (e : Entry). e.conditions) c.own.view_is in
    let at : ℕ × Condition → Subject = λ q. subject.Condition (comparison_at place q.0 q.1) in
    let front : List Subject = subject.Entry place ∷ map at (enumerate_from 0 (take nth cs)) in
    let more : enumerate_from 0 (take (nth + 1) items) ≡ enumerate_from 0 (take nth items) ++ (nth, own) ∷ [] =
    enumerate_more items nth own c.loop-nth-test.true
    ∙ ap (λ (x : Condition). enumerate_from 0 (take nth items) ++ (nth, x) ∷ []) (sym c.condition-item.is) in
    let longer : enumerate_from 0 (take nth cs) ++ (nth, own) ∷ [] ≡ enumerate_from 0 (take (nth + 1) cs) =
    subst (λ (l : List Condition). enumerate_from 0 (take nth l) ++ (nth, own) ∷ [] ≡ enumerate_from 0 (take (nth + 1) l)) same
    (sym more) in
    let pushed : c.push-in-loop-nth.new.self.items ≡ c.loop-nth.subjects.items ++ at (nth, own) ∷ [] = search rules in
    pushed ∙ ap (λ (ss : List Subject). ss ++ at (nth, own) ∷ []) c.loop-nth.invariant
    ∙ append_assoc begun front (at (nth, own) ∷ [])
    ∙ ap (λ (ss : List Subject). begun ++ (subject.Entry place ∷ ss))
    (sym (map_push at (enumerate_from 0 (take nth cs)) (nth, own)) ∙ ap (map at) longer)

pub returns : goal.returns
returns c =
    let place = c.args.place in
    let e : Entry = c.args.own.now in
    let items : List Condition = c.deref-condition-items.result.now in
    let same : items ≡ e.conditions = c.deref-condition-items.ensures.value ∙ ap (λ (x : Entry). x.conditions) c.own.view_is in
    let many : length items ≡ length e.conditions = ap (λ (l : List Condition). length l) same in
    let at : ℕ × Condition → Subject = λ q. subject.Condition (comparison_at place q.0 q.1) in
    c.loop-nth.invariant
    ∙ ap (λ (l : List Condition). c.args.subjects.now.items ++ (subject.Entry place ∷ map at (enumerate_from 0 l)))
    (take_all c.loop-nth.nth e.conditions (omega (arith, many, c.loop-nth-test.false)))
