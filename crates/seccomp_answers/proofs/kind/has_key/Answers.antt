use Rattle.std.proofs.Common.{◌∙◌, codes, inl, inr, refl, sym}
use Rattle.std.proofs.lemmas.Bool.{false≢true}
use Rattle.seccomp_answers.proofs.kind.Keys.{stand_if}
use Rattle.seccomp_answers.proofs.kind.has_key.Goals as goal

pub returns-then-is_some : goal.returns-then-is_some
returns-then-is_some c =
    let at = stand_if c.args.text.now (codes "\"defaultAction\"") c.find.result c.find.ensures in
    (λ yes. inl (at.0 (sym c.is_some.ensures ∙ c.if-is_some.true)), λ is. refl)

pub returns : goal.returns
returns c =
    let first = stand_if c.args.text.now (codes "\"defaultAction\"") c.find.result c.find.ensures in
    let second = stand_if c.args.text.now (codes "\"ociVersion\"") c.find-2.result c.find-2.ensures in (
      λ yes. inr (second.0 (sym c.is_some-2.ensures ∙ yes)),
      λ is. elim is [
        | inl there ↦ absurd (false≢true (sym c.if-is_some.false ∙ c.is_some.ensures ∙ first.1 there))
        | inr there ↦ c.is_some-2.ensures ∙ second.1 there
      ],
    )
