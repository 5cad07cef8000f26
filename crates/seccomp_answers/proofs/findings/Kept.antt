-- For `findings_of`: the findings that are kept.
use Rattle.std.proofs.Common.{◌≡◌, List, [], ◌∷◌, refl, ap}
use Rattle.std.specs.List.{filter}
use Rattle.seccomp_answers.specs.Findings.{is_kept, verdict_of, worse}
use Rattle.seccomp_answers.specs.declared.findings.Answer.{Answer}
use Rattle.seccomp_answers.specs.declared.findings.Answer.TheVariants.{Holds, Fails, Undecided}
use Rattle.seccomp_answers.specs.declared.findings.Finding.{Finding}
use Rattle.seccomp_answers.specs.declared.findings.Verdict.TheVariants as verdict

-- They have the verdict of all.
pub kept_verdict : (all : List Finding) → verdict_of (filter is_kept all) ≡ verdict_of all
kept_verdict [] = refl
kept_verdict (f ∷ all) = by (kept_verdict all) f.answer refl
  where
    by : verdict_of (filter is_kept all) ≡ verdict_of all → (a : Answer) → f.answer ≡ a
        → verdict_of (filter is_kept (f ∷ all)) ≡ verdict_of (f ∷ all)
    by rest Holds is = rw is rest
    by rest (Fails call old new throughout) is = rw is refl
    by rest (Undecided call old new) is = rw is (ap (worse verdict.Undecided) rest)
