use Rattle.std.proofs.Common.{◌≡◌, ◌∙◌, All, rules, subst, sym}
use Rattle.std.specs.Prelude.{Contains}
use Rattle.std.proofs.lemmas.Bool.{false≢true}
use Rattle.seccompiler.specs.declared.backend.TargetArch.TheVariants.{x86_64}
use Rattle.seccomp_entries.specs.Entries.{Lowered}
use Rattle.seccomp_warnings.specs.AbiEvasions.{IsToldOn}
use Rattle.seccomp_warnings.specs.declared.code.Code.TheVariants.{AbiEvades}
use Rattle.seccomp_warnings.proofs.EvadedOn.{both_told}
use Rattle.seccomp_warnings.proofs.profile.abi.abi_evasions_of.Goals as goal

pub returns : goal.returns
returns c =
    let own : Lowered = c.args.own.now in
    let machine : own.target_arch ≡ x86_64 = search rules in
    let not : Contains c.args.allowed.now AbiEvades → ⊥ = λ has. false≢true (sym c.if-is_among.false ∙ c.is_among.ensures.1 has) in
    subst (All (IsToldOn c.args.allowed.now c.args.container.now c.args.profile.now own)) (sym c.in_ok-append.ensures.items)
    (both_told c.args.allowed.now c.args.container.now c.args.profile.now own c.in_ok-all.all.items c.in_ok-more.more.items machine not
    c.in_ok-all.ensures c.in_ok-more.ensures)
