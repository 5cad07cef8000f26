use Rattle.std.proofs.Common.{[], ◌≡◌, ◌∷◌, ◌++◌, ◌∙◌, List, ap, append_assoc, refl, subst, sym}
use Rattle.seccomp_answers.specs.Findings.{AreAllFound, AreReturned}
use Rattle.seccomp_answers.specs.declared.findings.Finding.{Finding}
use Rattle.seccomp_answers.proofs.findings.CutParts.{more_found, one_found}
use Rattle.seccomp_answers.proofs.findings.pieces.cut_at.Goals as goal

-- one more behind a list and in front of another
pushed : (now front : List Finding) (f : Finding) (more : List Finding) → now ≡ front ++ f ∷ [] → front ++ f ∷ more ≡ now ++ more
pushed now front f more is = sym (ap (λ (fs : List Finding). fs ++ more) is ∙ append_assoc front (f ∷ []) more)

pub loop-border-preserved : goal.loop-border-preserved
loop-border-preserved g c = λ more then.
    let target = c.args.terms.target in
    let relation = c.args.terms.relation in
    let words = AreReturned c.args.new.now c.args.old.now in
    let l = c.loop-border in
    let f : Finding = record { part = c.in-Some.front; answer = c.in_ok-answer.answer } in
    let found = more_found target relation words l.rest c.in-Some.front c.in-Some.back f more c.in-Some.ensures refl c.in_ok-answer.ensures
    then in
    subst (AreAllFound target relation words (c.args.part ∷ []))
    (pushed c.push.new.self.items l.pieces.items f more c.in_ok-push.ensures.items) (l.invariant (f ∷ more) found)

pub returns : goal.returns
returns g c =
    let target = c.args.terms.target in
    let relation = c.args.terms.relation in
    let words = AreReturned c.args.new.now c.args.old.now in
    let l = c.loop-border in
    let f : Finding = record { part = l.rest; answer = c.in_ok-answer-2.answer } in
    subst (AreAllFound target relation words (c.args.part ∷ [])) (sym c.in_ok-push-2.ensures.items)
    (l.invariant (f ∷ []) (one_found target relation words l.rest f refl c.in_ok-answer-2.ensures))
