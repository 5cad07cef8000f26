use Rattle.seccomptool.proofs.Common.{AnswerError, IfErr-weaker, IfOk, IfOk-at_ok, IfOk-weaker, IsUnpicked, IsUnread, IsWrittenAs, Layout}
use Rattle.seccomptool.proofs.Common.{List, Made, Option, Policy, TargetArch, err_from_is_err_and, inl, inr, of_name, subst, sym, text_of}
use Rattle.seccomptool.proofs.Common.{unread, ℕ}
use Rattle.seccomptool.specs.Causes.{IsUncompiledAs, IsUncompiledIn}
use Rattle.seccomptool.proofs.Causes.{size_told}
use Rattle.seccomptool.proofs.compile.policy_made.Goals as goal

pub returns-clause-made : goal.returns-clause-made
returns-clause-made c =
    let program = c.in-Ok.program.items in
    let written = subst (λ p. IfOk c.program_written-text.result (λ w. IsWrittenAs c.args.asked.now.format p w.items))
    c.deref.ensures.value c.program_written-text.ensures in
    IfOk-weaker c.of.result _ _ (λ (made : Made) is. (
      (
        program,
        (c.in_ok-name.chosen, c.in_ok-name.ensures.chosen, c.in-Ok.ensures.compiled),
        IfOk-at_ok (λ w. IsWrittenAs c.args.asked.now.format program w.items) is.0 written,
      ),
      (is.1, is.2),
    )) c.of.ensures.made

-- what isn't picked isn't compiled
uncompiled : (target : TargetArch) (layout : Layout) (asked : Option (List ℕ)) (text : List ℕ) (e : AnswerError)
    → IsUnpicked target asked text e → IsUncompiledIn target layout asked text e
uncompiled target layout asked text e (inl is) = unread is
uncompiled target layout asked text e (inr is) = of_name is

pub returns-in_err-name-clause-cause : goal.returns-in_err-name-clause-cause
returns-in_err-name-clause-cause c =
    let asked = c.args.asked.now in
    let error = err_from_is_err_and c.from_residual.result c.from_residual.ensures.1 in
    rw (error.1, error.2) (uncompiled asked.arch asked.layout (text_of asked.subject.filter) c.args.policy.now c.in_err-name.field-0.0
    c.in_err-name.ensures.cause)

pub returns-in-Err-clause-cause : goal.returns-in-Err-clause-cause
returns-in-Err-clause-cause c =
    let asked = c.args.asked.now in
    let of = c.in_ok-name.ensures in
    size_told asked.arch asked.layout (text_of asked.subject.filter) c.args.policy.now c.in_ok-name.chosen of.chosen of.fits c.in-Err.cause
    c.too_large.result c.in-Err.ensures.refused c.too_large.ensures

pub returns-clause-cause : goal.returns-clause-cause
returns-clause-cause c =
    let asked = c.args.asked.now in
    IfErr-weaker c.of.result _ (IsUncompiledAs asked Policy c.args.policy.now)
    (λ e lacks. unread (subst (IsUnread asked.arch c.args.policy.now) (sym lacks) tt)) c.of.ensures.failed
