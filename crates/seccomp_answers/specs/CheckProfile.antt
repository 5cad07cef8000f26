-- What `check` gives of a profile.
use Rattle.std.specs.Prelude.{ℕ, false, List}
use Rattle.seccompiler.specs.declared.backend.TargetArch.{TargetArch}
use Rattle.seccomp_profiles.specs.CompiledProfile.{IsCompiledProfile}
use Rattle.seccomp_profiles.specs.Types.{Container}
use Rattle.seccomp_warnings.specs.ProfileWarnings.{AreProfileWarnings}
use Rattle.seccomp_warnings.specs.declared.code.Code.{Code}
use Rattle.seccomp_answers.specs.declared.check.CheckedProfile.{CheckedProfile}

-- The profile is that of the text, and is compiled, and these are its warnings.
pub record IsProfileCheckOf (target : TargetArch) (container : Container) (allowed : List Code) (text : List ℕ)
    (checked : CheckedProfile) : Type 0 where
  pub compiled : IsCompiledProfile target container false text checked.compiled
  pub warnings : AreProfileWarnings target container allowed checked.compiled.profile checked.warnings.items
