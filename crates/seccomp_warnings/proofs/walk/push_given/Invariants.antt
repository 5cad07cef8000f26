use Rattle.std.proofs.Common.{◌++◌, List, map, take}
use Rattle.std.specs.List.{flat_map}
use Rattle.seccomp_warnings.specs.Warnings.{AreGiven, AreThose, IsGiven, about, warnings_about}
use Rattle.seccomp_warnings.specs.declared.warning.Subject.{Subject}
use Rattle.seccomp_warnings.proofs.walk.push_given.Given as goal

-- those of the codes so far
abbrev pub invariant-loop-code : goal.invariant-loop-code
invariant-loop-code l = (front : List Subject) → AreGiven l.allowed l.verdicts l.part front l.fn.warnings.items
    → AreThose (IsGiven l.allowed l.verdicts l.part)
    (flat_map warnings_about front ++ map (about l.subject) (take l.code-index l.code-items)) l.warnings.items
