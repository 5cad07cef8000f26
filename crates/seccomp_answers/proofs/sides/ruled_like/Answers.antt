use Rattle.std.proofs.Common.{◌≡◌, ap, refl, subst, sym}
use Rattle.seccomp_compare.proofs.OfSeven.{checked_of_seven}
use Rattle.seccomp_answers.specs.Chosen.{text_of}
use Rattle.seccomp_answers.specs.Sides.{IsProgramFor}
use Rattle.std.proofs.lemmas.Result.{err_from_is_err_and}
use Rattle.seccompiler.specs.declared.backend.TargetArch.{TargetArch}
use Rattle.seccomp_answers.specs.declared.error.AnswerError.{AnswerError}
use Rattle.seccomp_answers.specs.declared.kind.Subject.{Subject}
use Rattle.seccomp_answers.specs.declared.kind.Subject.TheVariants.{Policy, Profile, Program}
use Rattle.seccomp_answers.specs.declared.sides.Side.{Side}
use Rattle.seccomp_answers.proofs.Causes.{told_unfitting, unpicked}
use Rattle.seccomp_answers.proofs.sides.ruled_like.Goals as goal
use Rattle.seccomp_answers.specs.Causes.{IsRefusedAs, IsUnfitting, IsUnruled, named, refused, too_large}

pub returns-in_ok-program-in-Policy-clause-ruled : goal.returns-in_ok-program-in-Policy-clause-ruled
returns-in_ok-program-in-Policy-clause-ruled c =
    let side = c.args.side in
    subst (λ k. IsProgramFor c.args.target k (text_of side.filter) side.given.now c.in_ok-program-in-Policy.program.items)
    (sym c.in-Policy.is) (
      c.in_ok-name-in-Policy.filter,
      c.in_ok-name-in-Policy.ensures.chosen,
      c.in_ok-program-in-Policy.ensures.stands c.args.target,
    )

pub returns-in_ok-compiled-in-Profile-clause-ruled : goal.returns-in_ok-compiled-in-Profile-clause-ruled
returns-in_ok-compiled-in-Profile-clause-ruled c =
    let side = c.args.side in
    let compiled = c.in_ok-compiled-in-Profile.compiled in
    subst (λ k. IsProgramFor c.args.target k (text_of side.filter) side.given.now compiled.program.items) (sym c.in-Profile.is)
    (ap text_of c.in_ok-refuse_name-in-Profile.ensures.unasked, compiled, c.in_ok-compiled-in-Profile.ensures.compiled, refl)

pub returns-in_ok-program_of-in-Program-clause-ruled : goal.returns-in_ok-program_of-in-Program-clause-ruled
returns-in_ok-program_of-in-Program-clause-ruled c =
    let side = c.args.side in
    let program = c.in_ok-program_of-in-Program.field-0.items in
    let is = c.in_ok-program_of-in-Program.ensures in
    subst (λ k. IsProgramFor c.args.target k (text_of side.filter) side.given.now program) (sym c.in-Program.is)
    (ap text_of c.in_ok-refuse_name-in-Program.ensures.unasked, is.program, is.checked)

pub returns-in_ok-program-in-Policy-clause-checked : goal.returns-in_ok-program-in-Policy-clause-checked
returns-in_ok-program-in-Policy-clause-checked c =
    (c.in_ok-program-in-Policy.ensures.stands c.args.target).checked

pub returns-in_ok-compiled-in-Profile-clause-checked : goal.returns-in_ok-compiled-in-Profile-clause-checked
returns-in_ok-compiled-in-Profile-clause-checked c = checked_of_seven _ c.in_ok-compiled-in-Profile.ensures.compiled.program.checked

pub returns-in_ok-program-in-Policy-clause-filter : goal.returns-in_ok-program-in-Policy-clause-filter
returns-in_ok-program-in-Policy-clause-filter c = record {
  kind_is = c.in-Policy.is;
  filter = c.in_ok-name-in-Policy.ensures.chosen;
  stands = c.in_ok-program-in-Policy.ensures.stands c.args.target;
}

-- ---- why there is none

module _ (target : TargetArch) (side : Side) where
  -- The same of a side of this kind.
  of_kind_is : (kind : Subject) → side.kind ≡ kind → (e : AnswerError)
      → IsRefusedAs (IsUnfitting target (text_of side.filter) side.given.now) target kind (text_of side.filter) side.given.now e
      → IsUnruled target side e
  of_kind_is kind is e why = subst (λ k. IsRefusedAs (IsUnfitting target (text_of side.filter) side.given.now) target k
      (text_of side.filter) side.given.now e) (sym is) why

pub returns-in_err-name-in-Policy-clause-cause : goal.returns-in_err-name-in-Policy-clause-cause
returns-in_err-name-in-Policy-clause-cause c =
    let error = err_from_is_err_and c.from_residual.result c.from_residual.ensures.1 in
    let side = c.args.side in
    rw (error.1, error.2) (of_kind_is c.args.target side Policy c.in-Policy.is _ (unpicked c.args.target (text_of side.filter)
    side.given.now _ _ c.in_err-name-in-Policy.ensures.cause))

pub returns-in_err-program-in-Policy-clause-cause : goal.returns-in_err-program-in-Policy-clause-cause
returns-in_err-program-in-Policy-clause-cause c =
    let error = err_from_is_err_and c.from_residual-in_err-program-in-Policy.result c.from_residual-in_err-program-in-Policy.ensures.1 in
    let f = c.in_ok-name-in-Policy.filter in
    let of = c.in_ok-name-in-Policy.ensures in
    rw (error.1, error.2) (of_kind_is c.args.target c.args.side Policy c.in-Policy.is _ (too_large
    (f, of.chosen, told_unfitting f of.fits c.in_err-program-in-Policy.field-0.0 c.in_err-program-in-Policy.ensures.refused)))

pub returns-in_err-refuse_name-in-Profile-clause-cause : goal.returns-in_err-refuse_name-in-Profile-clause-cause
returns-in_err-refuse_name-in-Profile-clause-cause c =
    let at = c.from_residual-in_err-refuse_name-in-Profile in
    let error = err_from_is_err_and at.result at.ensures.1 in
    rw (error.1, error.2) (of_kind_is c.args.target c.args.side (Profile c.in-Profile.container)
    c.in-Profile.is _ (named c.in_err-refuse_name-in-Profile.ensures.cause))

pub returns-in_err-compiled-in-Profile-clause-cause : goal.returns-in_err-compiled-in-Profile-clause-cause
returns-in_err-compiled-in-Profile-clause-cause c =
    let at = c.from_residual-in_err-compiled-in-Profile in
    let error = err_from_is_err_and at.result at.ensures.1 in
    rw (error.1, error.2) (of_kind_is c.args.target c.args.side (Profile c.in-Profile.container)
    c.in-Profile.is _ (refused c.in_err-compiled-in-Profile.ensures.refused))

pub returns-in_err-refuse_name-in-Program-clause-cause : goal.returns-in_err-refuse_name-in-Program-clause-cause
returns-in_err-refuse_name-in-Program-clause-cause c =
    let at = c.from_residual-in_err-refuse_name-in-Program in
    let error = err_from_is_err_and at.result at.ensures.1 in
    rw (error.1, error.2) (of_kind_is c.args.target c.args.side Program
    c.in-Program.is _ (named c.in_err-refuse_name-in-Program.ensures.cause))
