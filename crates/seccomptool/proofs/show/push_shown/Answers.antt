use Rattle.seccomptool.proofs.Common.{IsUnfitting, Linear, OutOfMemory, err_from_is_err_and, subst, sym, text_of, unread}
use Rattle.seccomptool.specs.Causes.{AreUnshown, IsUnshownAs}
use Rattle.seccomptool.specs.Commands.{IsShownUnless}
use Rattle.seccomptool.proofs.Causes.{beside, lacking}
use Rattle.seccomptool.proofs.show.Shown.{is_shown}
use Rattle.seccomptool.proofs.show.push_shown.Goals as goal

pub returns-then-asked-2-clause-shown : goal.returns-then-asked-2-clause-shown
returns-then-asked-2-clause-shown c =
    let asked = c.args.asked.now in
    subst (λ measured. IsShownUnless measured asked.arch c.args.subject asked.layout c.args.given.now) (sym c.if-asked-2.true) tt

pub returns-clause-shown : goal.returns-clause-shown
returns-clause-shown c =
    let asked = c.args.asked.now in
    subst (λ measured. IsShownUnless measured asked.arch c.args.subject asked.layout c.args.given.now) (sym c.if-asked-2.false)
    (is_shown asked.arch (text_of asked.subject.filter) c.args.given.now c.in_ok-one.one.program.items c.args.subject asked.layout
    c.in_default.not-Policy c.in_ok-one.ensures.ruled)

pub returns-in_err-stats_of-clause-cause : goal.returns-in_err-stats_of-clause-cause
returns-in_err-stats_of-clause-cause c =
    let error = err_from_is_err_and c.from_residual.result c.from_residual.ensures.1 in
    let asked = c.args.asked.now in
    let given = c.args.given.now in
    let own = c.in_err-stats_of.field-0.0 in
    rw (error.1, error.2) (subst (λ kind. IsUnshownAs asked kind given own) (sym c.in-Policy.is)
    (subst (λ measured. AreUnshown measured asked.arch asked.layout (text_of asked.subject.filter) given own) (sym c.if-asked.true)
    c.in_err-stats_of.ensures))

pub returns-in_err-programs-clause-cause : goal.returns-in_err-programs-clause-cause
returns-in_err-programs-clause-cause c =
    let at = c.from_residual-in_err-programs in
    let error = err_from_is_err_and at.result at.ensures.1 in
    let asked = c.args.asked.now in
    let given = c.args.given.now in
    let own = c.in_err-programs.field-0.0 in
    rw (error.1, error.2) (subst (λ kind. IsUnshownAs asked kind given own) (sym c.in-Policy.is)
    (subst (λ measured. AreUnshown measured asked.arch asked.layout (text_of asked.subject.filter) given own) (sym c.if-asked.false)
    c.in_err-programs.ensures.cause))

pub returns-in_err-one-clause-cause : goal.returns-in_err-one-clause-cause
returns-in_err-one-clause-cause c =
    let at = c.from_residual-in_err-one in
    let error = err_from_is_err_and at.result at.ensures.1 in
    let asked = c.args.asked.now in
    let given = c.args.given.now in
    rw (error.1, error.2) (beside (IsUnfitting asked.arch (text_of asked.subject.filter) given)
    (AreUnshown asked.measured asked.arch asked.layout (text_of asked.subject.filter) given) asked.arch c.args.subject (text_of
    asked.subject.filter)
    given c.in_err-one.field-0.0 c.in_default.not-Policy c.in_err-one.ensures.cause)

pub returns-in_err-measure-clause-cause : goal.returns-in_err-measure-clause-cause
returns-in_err-measure-clause-cause c =
    let at = c.from_residual-in_err-measure in
    let error = err_from_is_err_and at.result at.ensures.1 in
    let asked = c.args.asked.now in
    let given = c.args.given.now in
    rw (error.1, error.2) (lacking (AreUnshown asked.measured asked.arch asked.layout (text_of asked.subject.filter) given) asked.arch
    c.args.subject (text_of asked.subject.filter) given
    (subst (λ measured. AreUnshown measured asked.arch asked.layout (text_of asked.subject.filter) given OutOfMemory) (sym
    c.if-asked-2.true)
    (Linear, unread tt)))
