-- The program of a whole profile's text, and why there is none.
use Rattle.std.specs.Prelude.{◌≡◌, ◌≢◌, ℕ, ◌<◌, Bool, true, List, [], length, map, string_bytes, ⊤}
use Rattle.seccompiler.specs.declared.backend.TargetArch.{TargetArch}
use Rattle.seccompiler.specs.declared.bpf.sock_filter.{sock_filter}
use Rattle.seccompiler.specs.Machine.{greatest_length, IsChecked, IsRecord}
use Rattle.seccomp_tree.specs.Decided.{DecisionSet}
use Rattle.seccomp_tree.specs.TreeProgram.{AreRanges, EndsWithin, IsTreeProgram, length_by}
use Rattle.seccomp_profiles.specs.declared.compiled.CompiledProfile.{CompiledProfile}
use Rattle.seccomp_profiles.specs.declared.compiled.CompileError.{CompileError}
use Rattle.seccomp_profiles.specs.declared.compiled.CompileError.TheVariants as compile_error
use Rattle.seccomp_profiles.specs.declared.error.ProfileError.{ProfileError}
use Rattle.seccomp_profiles.specs.declared.error.ProfileError.TheVariants as profile_error
use Rattle.seccomp_profiles.specs.LeftOut.{AreLeftOut}
use Rattle.seccomp_profiles.specs.Lowered.{AreOwn}
use Rattle.seccomp_profiles.specs.ProfileDecisions.{IsProfileWord}
use Rattle.seccomp_profiles.specs.ProfileText.{IsProfileFault, IsProfileText}
use Rattle.seccomp_profiles.specs.Types.{Container, Profile}

-- The program returns the profile's word for the record, within as many steps as it has instructions.
pub record EndsAsProfile (arch : TargetArch) (container : Container) (p : Profile) (program : List sock_filter) (r : List ℕ) : Type 0 where
  pub word : ℕ
  pub decided : IsProfileWord arch container p r word
  pub ends : EndsWithin program r word (length program)

-- The program may be run, and returns the profile's word for every record.
pub record IsProfileProgram (arch : TargetArch) (container : Container) (p : Profile) (program : List sock_filter) : Type 0 where
  pub checked : IsChecked program
  pub decides : (r : List ℕ) → IsRecord r → EndsAsProfile arch container p program r

-- The program is that of the profile's own decisions.
pub record IsOwnProgram (arch : TargetArch) (container : Container) (p : Profile) (program : List sock_filter) : Type 0 where
  pub decisions : DecisionSet
  pub own : AreOwn arch container p decisions
  pub made : IsTreeProgram decisions program

-- The text is this profile's, and these names are left out: none if that is an error.
pub record IsRead (arch : TargetArch) (container : Container) (strict : Bool) (text : List ℕ) (p : Profile)
    (left_out : List (List ℕ)) : Type 0 where
  pub profile : IsProfileText text p
  pub names : AreLeftOut arch container p.entries left_out
  pub none : strict ≡ true → left_out ≡ []

-- The profile is the text's, and is compiled into one program, without the names that are left out.
pub record IsCompiledProfile (arch : TargetArch) (container : Container) (strict : Bool) (text : List ℕ) (compiled : CompiledProfile)
    : Type 0 where
  pub read : IsRead arch container strict text compiled.profile (map string_bytes compiled.left_out.items)
  pub program : IsProfileProgram arch container compiled.profile compiled.program.items
  pub own : IsOwnProgram arch container compiled.profile compiled.program.items

-- ---- why there is none

-- The names are some of the profile that no call of the architecture has.
pub record AreUnknownNames (arch : TargetArch) (container : Container) (p : Profile) (names : List (List ℕ)) : Type 0 where
  pub left_out : AreLeftOut arch container p.entries names
  pub some : names ≢ []

pub record HasUnknown (arch : TargetArch) (container : Container) (text : List ℕ) (names : List (List ℕ)) : Type 0 where
  pub profile : Profile
  pub is_profile : IsProfileText text profile
  pub are : AreUnknownNames arch container profile names

-- The profile's own decisions may need more than 4096 instructions.
pub record IsLarge (arch : TargetArch) (container : Container) (p : Profile) : Type 0 where
  pub decisions : DecisionSet
  pub own : AreOwn arch container p decisions
  pub large : (starts : List ℕ) → AreRanges decisions starts → greatest_length < length_by decisions (length starts)

pub record HasLarge (arch : TargetArch) (container : Container) (strict : Bool) (text : List ℕ) : Type 0 where
  pub profile : Profile
  pub left_out : List (List ℕ)
  pub read : IsRead arch container strict text profile left_out
  pub large : IsLarge arch container profile

-- The error says why the profile of the text isn't compiled. Out of memory may come in place of any answer, and stands in no other.
abbrev pub IsCompileFault : TargetArch → Container → Bool → List ℕ → CompileError → Type 0
IsCompileFault arch container strict text (compile_error.Profile fault) = (fault ≢ profile_error.OutOfMemory) × IsProfileFault text fault
IsCompileFault arch container strict text (compile_error.UnknownNames names) =
    (strict ≡ true) × HasUnknown arch container text (map string_bytes names.items)
IsCompileFault arch container strict text compile_error.TooLarge = HasLarge arch container strict text
IsCompileFault arch container strict text compile_error.OutOfMemory = ⊤

-- ---- the errors of the steps

-- Out of memory is an error of its own, and stands in no other.
abbrev pub from_profile : ProfileError → CompileError
from_profile profile_error.OutOfMemory = compile_error.OutOfMemory
from_profile error = compile_error.Profile error
