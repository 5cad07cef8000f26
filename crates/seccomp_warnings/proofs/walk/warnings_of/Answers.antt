use Rattle.std.proofs.Common.{◌≡◌, ◌+◌, ◌∙◌, List, subst, sym, take}
use Rattle.std.proofs.lemmas.List.{take_all, take_more}
use Rattle.seccomp_entries.specs.declared.verdict.Verdict.{Verdict}
use Rattle.seccomp_warnings.specs.Warnings.{AreGiven, subjects_in}
use Rattle.seccomp_warnings.specs.declared.warning.Subject.{Subject}
use Rattle.seccomp_warnings.proofs.walk.warnings_of.Goals as goal

pub loop-subject-preserved : goal.loop-subject-preserved
loop-subject-preserved c =
    let items : List Subject = c.deref-subject-items.result.now in
    let front : List Subject = take c.loop-subject.subject-index items in
    let told = AreGiven c.args.allowed.now in
    let part = c.args.part.now in
    subst (λ (vs : List Verdict). told vs part (take (c.loop-subject.subject-index + 1) items) c.push_given.new.warnings.items)
    c.deref.ensures.value
    (subst (λ (ss : List Subject). told c.deref.result.now part ss c.push_given.new.warnings.items)
    (sym (take_more items c.loop-subject.subject-index _ c.loop-subject-test.true))
    (c.in_ok-push_given.ensures front
    (subst (λ (vs : List Verdict). told vs part front c.loop-subject.warnings.items) (sym c.deref.ensures.value) c.loop-subject.invariant)))

pub returns : goal.returns
returns c =
    let items : List Subject = c.deref-subject-items.result.now in
    let all : take c.loop-subject.subject-index items ≡ subjects_in c.args.part.now =
    take_all c.loop-subject.subject-index items c.loop-subject-test.false ∙ c.deref-subject-items.ensures.value
    ∙ c.in_ok-subjects.ensures in
    record {
      verdicts = c.in_ok-verdicts.ensures;
      warnings = subst (λ (ss : List Subject).
          AreGiven c.args.allowed.now c.in_ok-verdicts.verdicts.items c.args.part.now ss c.loop-subject.warnings.items)
          all c.loop-subject.invariant;
    }
