use Rattle.std.proofs.Common.{◌-◌, [], arith}
use Rattle.std.proofs.lemmas.Str.{IsCharBoundary-from_ascii}
use Rattle.seccomp_tables.proofs.word_at.Goals as goal

pub overflow_sub-end : goal.overflow_sub-end
overflow_sub-end c = let word = c.requires.starts.each c.args.place [] c.requires.within in
    omega (arith, word.apart, c.from-end.ensures)

pub range-requires-clause-start_le_end : goal.range-requires-clause-start_le_end
range-requires-clause-start_le_end c = let word = c.requires.starts.each c.args.place [] c.requires.within in
    omega (arith, word.apart, c.from-start.ensures, c.from-end.ensures)

pub range-requires-clause-start_boundary : goal.range-requires-clause-start_boundary
range-requires-clause-start_boundary c positive = let word = c.requires.starts.each c.args.place [] c.requires.within in
    IsCharBoundary-from_ascii c.args.text.now c.from-start.result c.requires.starts.ascii
    (omega (arith, word.apart, word.inside, c.from-start.ensures, c.from-end.ensures))

pub range-requires-clause-end_boundary : goal.range-requires-clause-end_boundary
range-requires-clause-end_boundary c = let word = c.requires.starts.each c.args.place [] c.requires.within in
    IsCharBoundary-from_ascii c.args.text.now (c.from-end.result - 1) c.requires.starts.ascii
    (omega (arith, word.inside, c.from-end.ensures))
