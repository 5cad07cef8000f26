use Rattle.seccompiler.proofs.json.members.FoundMembers.{none_found}
use Rattle.seccompiler.proofs.json.members.whole_number.Goals as goal

pub returns-in_default : goal.returns-in_default
returns-in_default c d name found n is = none_found _ d name (rw c.in_default.is at found) is
