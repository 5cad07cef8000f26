use Rattle.std.proofs.Common.{◌≡◌, ◌↔◌, IsTrue, List, inl, inr, rules, subst, sym}
use Rattle.std.specs.Prelude.{Contains}
use Rattle.seccomp_warnings.specs.Beside.{HidesAlone}
use Rattle.seccomp_warnings.specs.declared.code.Code.{Code}
use Rattle.seccomp_warnings.proofs.beside.codes_beside.Goals as goal

pub returns : goal.returns
returns c = λ kind.
    let base : c.in_ok-codes.codes.items ≡ c.args.allowed.now = search rules in
    let first = c.in_ok-push_if.ensures kind in
    let second = c.in_ok-push_if-2.ensures kind in
    let both : IsTrue c.if-beside.of_pair ↔ (IsTrue c.args.beside.does_more × HidesAlone c.args.filter.now) = search rules in (
      λ has. elim (second.0 has) [
        | inl before ↦ elim (first.0 before) [
          | inl old ↦ inl (subst (λ (codes : List Code). Contains codes kind) base old)
          | inr hidden ↦ inr (inl hidden)
        ]
        | inr pair ↦ inr (inr (pair.0, both.0 pair.1))
      ],
      λ either. elim either [
        | inl old ↦ second.1 (inl (first.1 (inl (subst (λ (codes : List Code). Contains codes kind) (sym base) old))))
        | inr settled ↦ elim settled [
          | inl hidden ↦ second.1 (inl (first.1 (inr hidden)))
          | inr pair ↦ second.1 (inr (pair.0, both.1 pair.1))
        ]
      ],
    )
