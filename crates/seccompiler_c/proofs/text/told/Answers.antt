use Rattle.std.proofs.Common.{sym, ◌∙◌}
use Rattle.seccompiler_c.proofs.text.Places.{own_text, placed_at}
use Rattle.seccompiler_c.proofs.text.told.Goals as goal

pub returns-in-None : goal.returns-in-None
returns-in-None c =
    let none = sym c.cause_of.ensures ∙ c.in-None.is in
    own_text c.args.target c.args.policy.now c.args.fault.now none c.own_text.result c.own_text.ensures

pub returns-in-Some : goal.returns-in-Some
returns-in-Some c = placed_at c.args.target c.args.policy.now c.args.fault.now c.in-Some.cause (sym c.cause_of.ensures ∙ c.in-Some.is)
    c.placed.result c.placed.ensures
