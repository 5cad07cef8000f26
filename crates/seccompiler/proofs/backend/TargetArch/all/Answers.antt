use Rattle.std.proofs.Common.{rules, List, [], ◌∷◌, Contains, refl, arith}
use Rattle.std.proofs.lemmas.List.Elements.{Contains-append_right}
use Rattle.seccompiler.specs.declared.backend.TargetArch.{TargetArch}
use Rattle.seccompiler.specs.declared.backend.TargetArch.TheVariants.{x86_64}
use Rattle.seccompiler.proofs.backend.TargetArch.all.Goals as goal

here : (arch : TargetArch) (rest : List TargetArch) → Contains (arch ∷ rest) arch
here arch rest = (0, omega arith, refl)

behind : (first arch : TargetArch) (rest : List TargetArch) → Contains rest arch → Contains (first ∷ rest) arch
behind first arch rest is = Contains-append_right (first ∷ []) rest arch is

-- The second clause stands for every other architecture.
pub returns-clause-each : goal.returns-clause-each
returns-clause-each c x86_64 = search (rules, here)
returns-clause-each c _ = search (rules, here, behind)
