use Rattle.seccomptool.proofs.Common.{found_of, subst}
use Rattle.seccomptool.specs.Files.{IsFor}
use Rattle.seccomptool.proofs.words.asked_of.Goals as goal

pub returns-in-Ok : goal.returns-in-Ok
returns-in-Ok g c =
    let found = found_of c.unwrap_or.result.1.now in
    let name = c.unwrap_or.result.0.now in
    (found, name, subst (IsFor (g.O.Outside.there c.args.out.now) found name) c.in-Some.is c.in_ok-command.ensures)
