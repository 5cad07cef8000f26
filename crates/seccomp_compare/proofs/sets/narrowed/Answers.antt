use Rattle.std.proofs.Common.{arith}
use Rattle.seccomp_compare.proofs.RecordSets.{in_narrowed, from_narrowed, tight_narrowed, set_here, other_word}
use Rattle.seccomp_compare.proofs.sets.narrowed.Goals as goal

pub returns-clause-tight : goal.returns-clause-tight
returns-clause-tight c = tight_narrowed c.args.part.now c.args.word c.args.values c.requires.tight c.requires.values

pub returns-clause-to : goal.returns-clause-to
returns-clause-to c = λ r inside has. in_narrowed c.args.part.now c.args.word c.args.values r inside has

pub returns-clause-back : goal.returns-clause-back
returns-clause-back c = λ among r rec inside. from_narrowed c.args.part.now c.args.word c.args.values r rec among inside

pub returns-clause-here : goal.returns-clause-here
returns-clause-here c = set_here c.args.part.now c.args.word c.args.values (omega (arith, c.requires.word, c.told-part))

pub returns-clause-others : goal.returns-clause-others
returns-clause-others c = λ r inside w s other found. other_word c.args.part.now c.args.word c.args.values r w s inside other found
