-- For `diff_policies` and `found_by_name`: why filters aren't compared.
use Rattle.std.proofs.Common.{◌≡◌, ℕ, List, Option, Some, IfSome, All, sym, subst, ◌∙◌}
use Rattle.seccompiler.specs.Compiled.{numbers_of}
use Rattle.seccompiler.specs.JsonAnswers.{ArePoliciesOf, OfValue}
use Rattle.seccompiler.specs.Policy.{Filter}
use Rattle.seccompiler.specs.SyscallTable.{IsTableNumber}
use Rattle.seccompiler.specs.declared.backend.TargetArch.{TargetArch}
use Rattle.seccomp_answers.specs.Sides.{Policies}
use Rattle.seccomp_answers.specs.declared.error.AnswerError.{AnswerError}
use Rattle.seccomp_answers.proofs.Causes.{found_fits, told_unfitting}
use Rattle.seccomp_answers.specs.Causes.{AreUnfitting, IsOfEither, IsUnfittingFilter, IsUnfittingIn, IsUnfittingUnder, TellsUnfitting}
use Rattle.seccomp_answers.specs.Causes.{of_neither, of_new, of_old, too_large}

-- What is so of both sides' errors is so of an error of either.
pub either_more : (Old New Old2 New2 : AnswerError → Type 0) → ((e : AnswerError) → Old e → Old2 e) → ((e : AnswerError) → New e → New2 e)
    → (e : AnswerError) → IsOfEither Old New e → IsOfEither Old2 New2 e
either_more Old New Old2 New2 old new e (of_neither is) = of_neither is
either_more Old New Old2 New2 old new e (of_old is) = of_old (old e is)
either_more Old New Old2 New2 old new e (of_new own is second) = of_new own (new own is) second

-- The error of a filter that is found is one of its text's.
pub of_text : (target : TargetArch) (text : List ℕ) (find : Policies) → OfValue text (ArePoliciesOf target find)
    → ((name : List ℕ) → IfSome (find name) (λ f. All IsTableNumber (numbers_of f.chains))) → (e : AnswerError) → IsUnfittingIn find e
    → AreUnfitting target text e
of_text target text find read numbers e (name, f, there, (cause, is, same)) = too_large (
  f,
  record { filters = find; of_text = read; name = name; there = there },
  subst (TellsUnfitting f) (sym same) (told_unfitting f (found_fits target text find read numbers name f there) cause is),
)

-- The error of the filter under a name is that of one that is found.
pub of_filter : (find : Policies) (name : List ℕ) (f : Filter) → find name ≡ Some f → (e : AnswerError) → IsUnfittingFilter f e
    → IsUnfittingIn find e
of_filter find name f there e is = (name, f, there, is)

pub of_found : (find : Policies) (name : List ℕ) (found : Option Filter) → found ≡ find name → (e : AnswerError) → IsUnfittingUnder found e
    → IsUnfittingIn find e
of_found find name found is e (f, there, why) = (name, f, sym is ∙ there, why)
