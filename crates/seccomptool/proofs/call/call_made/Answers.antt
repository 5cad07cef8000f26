use Rattle.seccomptool.proofs.Common.{IfOk-weaker, Made, subst, sym}
use Rattle.seccomptool.specs.Commands.{IsCalledOn}
use Rattle.seccomptool.proofs.call.call_made.Goals as goal

pub returns-clause-made : goal.returns-clause-made
returns-clause-made c =
    let asked = c.args.asked.now in
    IfOk-weaker c.plain-2.result _ _ (λ (made : Made) is. (
      subst (λ recorded. IsCalledOn recorded asked.each_arch asked.arch asked.call made.text.items) (sym c.if-asked.false)
          (c.in_ok-calls.calls.items, c.in_ok-calls.ensures.known),
      is.1,
    )) c.plain-2.ensures.made
