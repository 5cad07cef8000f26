use Rattle.seccomp_tree.proofs.Common.{drop, AreMet, Give}
use Rattle.seccomp_tree.proofs.code.Code.conditions.Given as goal

abbrev pub invariant-loop-left : goal.invariant-loop-left
invariant-loop-left l = AreMet (drop l.left l.conditions) l.initial.self (Give l.value) l.after l.target l.self
