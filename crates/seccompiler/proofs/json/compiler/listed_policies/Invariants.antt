use Rattle.std.specs.Vec.Iter.{into_iter_items}
use Rattle.seccompiler.specs.JsonPolicyOf.{IsPolicyOf}
use Rattle.seccompiler.proofs.ByName.{IsMaking}
use Rattle.seccompiler.proofs.json.compiler.listed_policies.Given as goal

abbrev pub invariant-loop-name : goal.invariant-loop-name
invariant-loop-name l =
    IsMaking (IsPolicyOf l.arch) (into_iter_items l.initial.name-iterator) (into_iter_items l.name-iterator) l.policies
