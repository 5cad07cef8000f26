use Rattle.std.proofs.Common.{◌∙◌, codes, inl, inr, refl, subst, sym}
use Rattle.std.proofs.lemmas.Bool.{false≢true}
use Rattle.seccomp_answers.specs.Kinds.{HasText}
use Rattle.seccomp_answers.proofs.kind.names_profile.Goals as goal

pub returns-then-has_text : goal.returns-then-has_text
returns-then-has_text c = (
  λ yes. inl (subst (HasText (codes "defaultAction")) c.profile_in.ensures (c.has_text.ensures.0 c.if-has_text.true)),
  λ is. refl,
)

pub returns : goal.returns
returns c = (
  λ yes. inr (c.has_text-2.ensures.0 yes),
  λ is. elim is [
    | inl has ↦ absurd (false≢true (sym c.if-has_text.false
        ∙ c.has_text.ensures.1 (subst (HasText (codes "defaultAction")) (sym c.profile_in.ensures) has)))
    | inr has ↦ c.has_text-2.ensures.1 has
  ],
)
