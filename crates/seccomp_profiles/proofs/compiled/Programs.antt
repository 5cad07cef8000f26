-- For `compile_profile`: the program of decisions is that of a profile, and no name is left out of an empty list.
use Rattle.std.proofs.Common.{◌≡◌, ℕ, Bool, true, List, [], ◌∷◌, length, map, String, Global, string_bytes, arith, refl}
use Rattle.std.specs.Prelude.{◌==◌}
use Rattle.std.proofs.lemmas.Bool.Decides.{nat_tests}
use Rattle.seccompiler.specs.declared.backend.TargetArch.{TargetArch}
use Rattle.seccompiler.specs.declared.bpf.sock_filter.{sock_filter}
use Rattle.seccomp_tree.specs.Decided.{DecisionSet}
use Rattle.seccomp_tree.specs.TreeProgram.{IsTreeProgram}
use Rattle.seccomp_profiles.specs.CompiledProfile.{IsProfileProgram}
use Rattle.seccomp_profiles.specs.ProfileDecisions.{DecideAs}
use Rattle.seccomp_profiles.specs.Types.{Container, Profile}

-- If the list's length is tested to be 0, there are no names.
pub no_names : (names : List (String Global)) (n : ℕ) (r : Bool) → n ≡ length names → r ≡ (n == 0) → r ≡ true
    → map string_bytes names ≡ []
no_names [] n r same is empty = refl
no_names (name ∷ names) n r same is empty = absurd (grind (arith, nat_tests, same, is, empty))

module _ (arch : TargetArch) (container : Container) (p : Profile) where
  -- A program of decisions that decide as the profile is the profile's.
  pub profile_program : (d : DecisionSet) (program : List sock_filter) → DecideAs arch container p d → IsTreeProgram d program
      → IsProfileProgram arch container p program
  profile_program d program decide is = record {
    checked = is.checked;
    decides = λ r record_is.
        let found = is.decides r record_is in
        record { word = found.word; decided = decide.decide r found.word found.decided; ends = found.ends };
  }
