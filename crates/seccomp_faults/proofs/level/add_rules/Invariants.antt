use Rattle.std.proofs.Common.{All}
use Rattle.seccompiler.specs.JsonShape.{IsObject}
use Rattle.seccomp_faults.proofs.Parts.{IsPart, view}
use Rattle.seccomp_faults.proofs.level.add_rules.Given as goal

abbrev pub invariant-loop-rule : goal.invariant-loop-rule
invariant-loop-rule l = IsObject (view l.value) → All (IsPart l.target l.fn.form (view l.value)) l.fn.parts.items
    → All (IsPart l.target l.fn.form (view l.value)) l.parts.items
