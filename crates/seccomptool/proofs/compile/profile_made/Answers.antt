use Rattle.seccomptool.proofs.Common.{◌≡◌, IfErr-weaker, IfOk, IfOk-at_ok, IfOk-weaker, IsRefusedProfile, IsWrittenAs, Made, refl, rules}
use Rattle.seccomptool.proofs.Common.{subst, sym}
use Rattle.seccomptool.specs.Causes.{IsUncompiledProfile, uncompiled}
use Rattle.seccomptool.proofs.Causes.{names_told}
use Rattle.seccomptool.proofs.compile.profile_made.Goals as goal

pub returns-clause-made : goal.returns-clause-made
returns-clause-made c =
    let program = c.in-Ok.compiled.program.items in
    let format = c.args.asked.now.format in
    let same : c.deref.result.now ≡ program = search rules in
    let written = subst (λ p. IfOk c.program_written-text.result (λ w. IsWrittenAs format p w.items)) same c.program_written-text.ensures in
    IfOk-weaker c.of.result _ _ (λ (made : Made) is. (
      (
        program,
        (c.in-Ok.compiled, c.in-Ok.ensures.compiled, refl),
        IfOk-at_ok (λ w. IsWrittenAs format program w.items) is.0 written,
      ),
      (is.1, is.2),
    )) c.of.ensures.made

pub returns-in-Err-clause-cause : goal.returns-in-Err-clause-cause
returns-in-Err-clause-cause c =
    let asked = c.args.asked.now in
    names_told asked.arch c.args.container.now asked.strict c.args.profile.now c.in-Err.error c.uncompiled.result c.in-Err.ensures.refused
    c.uncompiled.ensures

pub returns-clause-cause : goal.returns-clause-cause
returns-clause-cause c =
    let asked = c.args.asked.now in
    let refused = IsRefusedProfile asked.arch c.args.container.now asked.strict c.args.profile.now in
    IfErr-weaker c.of.result _ (IsUncompiledProfile asked.arch c.args.container.now asked.strict c.args.profile.now)
    (λ e lacks. uncompiled (subst refused (sym lacks) tt)) c.of.ensures.failed
