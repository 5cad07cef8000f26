use Rattle.seccomptool.proofs.Common.{◌∙◌, IsCheckOf, IsProfileCheckOf, ap, subst, sym, verdict_where}
use Rattle.seccomptool.specs.Commands.{IsAccepted}
use Rattle.seccomptool.proofs.check.accepted.Goals as goal

pub returns-in_ok-checked-in-Policy-clause-accepted : goal.returns-in_ok-checked-in-Policy-clause-accepted
returns-in_ok-checked-in-Policy-clause-accepted c =
    let asked = c.args.asked.now in
    let checked = c.in_ok-checked-in-Policy.checked in
    subst (λ k. IsAccepted asked k c.args.given.now c.verdict_where.result) (sym c.in-Policy.is) (
      checked,
      subst (λ allowed. IsCheckOf asked.arch allowed c.args.given.now checked) c.deref.ensures.value
          c.in_ok-checked-in-Policy.ensures.checked,
      c.verdict_where.ensures,
    )

pub returns-in_ok-checked-in-Profile-clause-accepted : goal.returns-in_ok-checked-in-Profile-clause-accepted
returns-in_ok-checked-in-Profile-clause-accepted c =
    let asked = c.args.asked.now in
    let checked = c.in_ok-checked-in-Profile.checked in
    subst (λ k. IsAccepted asked k c.args.given.now c.verdict_where-in-Profile.result) (sym c.in-Profile.is) (
      checked,
      subst (λ allowed. IsProfileCheckOf asked.arch c.in-Profile.container.now allowed c.args.given.now checked)
          c.deref-in-Profile.ensures.value c.in_ok-checked-in-Profile.ensures.checked,
      c.verdict_where-in-Profile.ensures ∙ ap (verdict_where asked.denied) (c.len.ensures ∙ checked.warnings.ok.0),
    )
