-- For `abi`: evasions by the calls of i386, and then those of x32.
use Rattle.std.proofs.Common.{◌≡◌, ℕ, ◌++◌, List, All}
use Rattle.std.specs.Prelude.{Contains}
use Rattle.std.proofs.lemmas.List.Elements.{All-append, All-weaker}
use Rattle.seccompiler.specs.declared.backend.TargetArch.TheVariants.{x86_64}
use Rattle.seccomp_entries.specs.Entries.{Lowered}
use Rattle.seccomp_profiles.specs.Types.{Container, Profile}
use Rattle.seccomp_profiles.specs.declared.types.Abi.TheVariants.{I386, X32}
use Rattle.seccomp_warnings.specs.AbiEvasions.{AreAbiEvasions, IsAbiEvasion, IsToldOn, on_i386, on_x32}
use Rattle.seccomp_warnings.specs.declared.code.Code.{Code}
use Rattle.seccomp_warnings.specs.declared.code.Code.TheVariants.{AbiEvades}
use Rattle.seccomp_warnings.specs.declared.profile.abi.AbiEvasion.{AbiEvasion}

pub both_told : (allowed : List Code) (container : Container) (p : Profile) (own : Lowered) (xs ys : List AbiEvasion)
    → own.target_arch ≡ x86_64 → (Contains allowed AbiEvades → ⊥) → All (IsAbiEvasion I386 container p own) xs
    → All (IsAbiEvasion X32 container p own) ys → AreAbiEvasions allowed container p own (xs ++ ys)
both_told allowed container p own xs ys machine not on_first on_second =
    let Told = IsToldOn allowed container p own in
    All-append Told xs ys
    (All-weaker (IsAbiEvasion I386 container p own) Told
    (λ v is. record { is_machine = machine; is_not_allowed = not; is_evaded = on_i386 is }) xs on_first)
    (All-weaker (IsAbiEvasion X32 container p own) Told
    (λ v is. record { is_machine = machine; is_not_allowed = not; is_evaded = on_x32 is }) ys on_second)
