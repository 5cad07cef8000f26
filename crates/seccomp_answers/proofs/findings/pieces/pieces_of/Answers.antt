use Rattle.std.proofs.Common.{[], ◌≡◌, ◌∷◌, ◌++◌, ◌∙◌, List, ap, refl, subst, sym}
use Rattle.seccomp_answers.specs.Findings.{AreAllFound, AreReturned}
use Rattle.seccomp_answers.specs.declared.findings.Finding.{Finding}
use Rattle.seccomp_answers.proofs.findings.CutParts.{one_found}
use Rattle.seccomp_answers.proofs.findings.pieces.pieces_of.Goals as goal

-- one pushed onto nothing
only : (now before : List Finding) (f : Finding) → before ≡ [] → now ≡ before ++ f ∷ [] → f ∷ [] ≡ now
only now before f none is = sym (is ∙ ap (λ (fs : List Finding). fs ++ f ∷ []) none)

pub returns-2 : goal.returns-2
returns-2 g c =
    let target = c.args.terms.target in
    let relation = c.args.terms.relation in
    let words = AreReturned c.args.new.now c.args.old.now in
    let part = c.args.part in
    let f : Finding = record { part = part; answer = c.in_ok-answer.answer } in
    subst (AreAllFound target relation words (part ∷ []))
    (only c.push.new.self.items c.new-pieces.result.items f c.new-pieces.ensures.items c.in_ok-push.ensures.items)
    (one_found target relation words part f refl c.in_ok-answer.ensures)
