use Rattle.std.specs.Vec.Iter.{into_iter_items}
use Rattle.seccompiler.proofs.ByName.{IsMaking}
use Rattle.seccompiler.proofs.compile.TextPrograms.{Compiles}
use Rattle.seccompiler.proofs.compile.listed_programs.Given as goal

abbrev pub invariant-loop-name : goal.invariant-loop-name
invariant-loop-name l = IsMaking Compiles (into_iter_items l.initial.name-iterator) (into_iter_items l.name-iterator) l.programs
