use Rattle.std.proofs.Common.{rules}
use Rattle.seccompc.proofs.perform.perform.Goals as goal

pub returns-in-List-clause-answers : goal.returns-in-List-clause-answers
returns-in-List-clause-answers g c = rw c.in-List.is (search rules)

pub returns-in-Run-clause-answers : goal.returns-in-Run-clause-answers
returns-in-Run-clause-answers g c = rw c.in-Run.is (search rules)
