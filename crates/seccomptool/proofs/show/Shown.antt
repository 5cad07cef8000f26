-- For `push_shown`: the program of what is no policy.
use Rattle.seccomptool.proofs.Common.{◌≡◌, IsProgramFor, Layout, List, Option, Subject, TargetArch, refl, sock_filter, ℕ}
use Rattle.seccomp_answers.specs.declared.kind.Subject.TheVariants as subject
use Rattle.seccomptool.specs.Commands.{IsShownAs}

-- Of what is no policy it is shown.
module _ (target : TargetArch) (asked : Option (List ℕ)) (given : List ℕ) (program : List sock_filter) where
  pub is_shown : (kind : Subject) (layout : Layout) → (kind ≡ subject.Policy → ⊥) → IsProgramFor target kind asked given program
      → IsShownAs target kind layout given
  is_shown subject.Policy layout apart is = absurd (apart refl)
  is_shown (subject.Profile container) layout apart (none, compiled, is, same) = (compiled, is)
  is_shown subject.Program layout apart (none, is, checked) = (program, is, checked)
