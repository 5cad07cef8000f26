-- For `diff_pair` and `push_shown`: the program of a side stands for what it rules, and may be run.
use Rattle.std.proofs.Common.{ℕ, List, Option, refl, subst, sym}
use Rattle.seccompiler.specs.declared.backend.TargetArch.{TargetArch}
use Rattle.seccompiler.specs.declared.bpf.sock_filter.{sock_filter}
use Rattle.seccomp_compare.specs.Machine.{IsChecked}
use Rattle.seccomp_compare.proofs.OfSeven.{checked_of_seven, ends_of_seven}
use Rattle.seccomp_profiles.specs.CompiledProfile.{IsProfileProgram}
use Rattle.seccomp_profiles.specs.ProfileDecisions.{other, own}
use Rattle.seccomp_profiles.specs.Types.{Container, Profile}
use Rattle.seccomp_compare.proofs.Ends.{ends_somehow}
use Rattle.seccomp_answers.specs.Rulings.{Decides, Ruling, StandsFor, of_filter, of_profile, of_program}
use Rattle.seccomp_answers.specs.Chosen.{text_of}
use Rattle.seccomp_answers.specs.Sides.{IsProgramFor, IsRuling, Rules}
use Rattle.seccomp_answers.specs.declared.sides.Side.{Side}
use Rattle.seccomp_answers.specs.declared.kind.Subject.{Subject}
use Rattle.seccomp_answers.specs.declared.kind.Subject.TheVariants as subject

profile_stands : (target : TargetArch) (container : Container) (p : Profile) (program : List sock_filter)
    → IsProfileProgram target container p program → StandsFor target (of_profile container p) program
profile_stands target container p program is = record {
  checked = checked_of_seven program is.checked;
  decides = λ r rec.
      let at = is.decides r rec in
      let decided : Decides target (of_profile container p) r at.word = λ here. elim at.decided [
        | own action there decides named ↦ (action, decides, named)
        | other elsewhere named ↦ absurd (elsewhere here)
      ] in
      record {
        steps = at.ends.steps;
        word = at.word;
        ends = ends_of_seven program r at.ends.steps at.word at.ends.ends;
        decided = decided;
      };
}

program_stands : (target : TargetArch) (program : List sock_filter) → IsChecked program → StandsFor target (of_program program) program
program_stands target program checked = record {
  checked = checked;
  decides = λ r rec.
      let end = ends_somehow program r checked rec in
      record { steps = end.0; word = end.1; ends = end.2; decided = (end.0, end.2) };
}

stands : (target : TargetArch) (kind : Subject) (asked : Option (List ℕ)) (given : List ℕ) (program : List sock_filter)
    → IsProgramFor target kind asked given program
    → (ruling : Ruling) × Rules target kind asked given ruling × StandsFor target ruling program
stands target subject.Policy asked given program (filter, is, by) = (of_filter filter, is, by)
stands target (subject.Profile container) asked given program (none, compiled, is, same) = (
  of_profile container.now compiled.profile,
  (none, is.read.profile, refl),
  subst (StandsFor target (of_profile container.now compiled.profile)) (sym same)
      (profile_stands target container.now compiled.profile compiled.program.items is.program),
)
stands target subject.Program asked given program (none, is, checked) =
    (of_program program, (none, is), program_stands target program checked)

-- It stands for what the side rules.
pub side_stands : (target : TargetArch) (side : Side) (program : List sock_filter)
    → IsProgramFor target side.kind (text_of side.filter) side.given.now program
    → (ruling : Ruling) × IsRuling target side ruling × StandsFor target ruling program
side_stands target side program is = stands target side.kind (text_of side.filter) side.given.now program is
