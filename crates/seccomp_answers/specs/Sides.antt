-- A side of a comparison: what it rules, and which programs stand for it.
use Rattle.std.specs.Prelude.{◌≡◌, ℕ, false, List, Option, Some, None}
use Rattle.std.specs.Borrow.{Bor}
use Rattle.seccompiler.specs.declared.backend.TargetArch.{TargetArch}
use Rattle.seccompiler.specs.declared.bpf.sock_filter.{sock_filter}
use Rattle.seccompiler.specs.JsonAnswers.{ArePoliciesOf, OfValue}
use Rattle.seccompiler.specs.Policy.{Filter}
use Rattle.seccomp_compare.specs.Machine.{IsChecked}
use Rattle.seccomp_profiles.specs.declared.compiled.CompiledProfile.{CompiledProfile}
use Rattle.seccomp_profiles.specs.CompiledProfile.{IsCompiledProfile}
use Rattle.seccomp_profiles.specs.ProfileText.{IsProfileText}
use Rattle.seccomp_answers.specs.Chosen.{IsNamed, text_of}
use Rattle.seccomp_answers.specs.Rulings.{Ruling, StandsFor, of_filter, of_profile, of_program}
use Rattle.seccomp_answers.specs.Programs.{IsProgramOf}
use Rattle.seccomp_answers.specs.Kinds.{IsTakenAs}
use Rattle.seccomp_answers.specs.declared.kind.Reading.{Reading}
use Rattle.seccomp_answers.specs.declared.kind.Subject.{Subject}
use Rattle.seccomp_answers.specs.declared.kind.Subject.TheVariants as subject
use Rattle.seccomp_answers.specs.declared.sides.Side.{Side}

-- A policy: what is found under each name.
abbrev pub Policies : Type 0
Policies = List ℕ → Option Filter

-- The filter of the name that is asked for; or, if none is, the only one, under its name.
abbrev pub IsChosen : Option (List ℕ) → Policies → List ℕ → Filter → Type 0
IsChosen asked filters name filter = IsNamed asked filters name × (filters name ≡ Some filter)

-- The filter is the one that is asked for, or the only one, of the policy's text.
pub record IsFilterOf (target : TargetArch) (asked : Option (List ℕ)) (text : List ℕ) (filter : Filter) : Type 0 where
  pub filters : Policies
  pub of_text : OfValue text (ArePoliciesOf target filters)
  pub name : List ℕ
  pub chosen : IsChosen asked filters name filter

-- What is given rules so.
abbrev pub Rules : TargetArch → Subject → Option (List ℕ) → List ℕ → Ruling → Type 0
Rules target subject.Policy asked text (of_filter f) = IsFilterOf target asked text f
Rules target (subject.Profile container) asked text (of_profile c p) = (asked ≡ None) × IsProfileText text p × (c ≡ container.now)
Rules target subject.Program asked bytes (of_program p) = (asked ≡ None) × IsProgramOf bytes p
Rules target kind asked given ruling = ⊥

-- The side rules so.
abbrev pub IsRuling : TargetArch → Side → Ruling → Type 0
IsRuling target side ruling = Rules target side.kind (text_of side.filter) side.given.now ruling

-- Between layers: the program is that of what is given. It stands for a policy's filter, the one that is asked for or the only one;
-- or it is a profile's, or given itself, and no filter is asked for.
abbrev pub IsProgramFor : TargetArch → Subject → (asked : Option (List ℕ)) → (given : List ℕ) → List sock_filter → Type 0
IsProgramFor target subject.Policy asked text program =
    (filter : Filter) × IsFilterOf target asked text filter × StandsFor target (of_filter filter) program
IsProgramFor target (subject.Profile container) asked text program =
    (asked ≡ None) × (compiled : CompiledProfile) × IsCompiledProfile target container.now false text compiled
    × (program ≡ compiled.program.items)
IsProgramFor target subject.Program asked bytes program = (asked ≡ None) × IsProgramOf bytes program × IsChecked program

-- What is given is a policy's text, the filter is the one that is asked for or the only one of it, and the program stands for it.
pub record IsFilterFor (target : TargetArch) (kind : Subject) (asked : Option (List ℕ)) (given : List ℕ) (program : List sock_filter)
    (f : Filter) : Type 0 where
  pub kind_is : kind ≡ subject.Policy
  pub filter : IsFilterOf target asked given f
  pub stands : StandsFor target (of_filter f) program

-- The side is of these bytes, and of this filter of theirs.
pub record IsSideOf (reading : Reading) (filter : Option (Bor (List ℕ))) (given : List ℕ) (side : Side) : Type 0 where
  pub kind : IsTakenAs reading given side.kind
  pub filter_is : side.filter ≡ filter
  pub given_is : side.given.now ≡ given
