use Rattle.seccompiler_c.specs.Arguments.{IsArchitecture}
use Rattle.seccompiler_c.proofs.text.Places.{told_on}
use Rattle.seccompiler_c.proofs.text.tell_policy.Goals as goal

pub returns-in-Some : goal.returns-in-Some
returns-in-Some c =
    let message = c.args.message.now in
    let new = c.tell_place.new.message in
    told_on c.args.policy.now c.args.fault.now message new (IsArchitecture c.args.architecture) c.in-Some.target c.in-Some.ensures.found
    c.tell_place.ensures
