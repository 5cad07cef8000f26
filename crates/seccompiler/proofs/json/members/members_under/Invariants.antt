use Rattle.std.proofs.Common.{◌∷◌, [], map}
use Rattle.serde_json.specs.View.{view}
use Rattle.seccompiler.proofs.json.members.ObjectNames.{IsSoFar, data_of}
use Rattle.seccompiler.proofs.json.members.members_under.Given as goal

abbrev pub invariant-loop-name : goal.invariant-loop-name
invariant-loop-name l =
    IsSoFar (view l.fn.value) l.name-iterator
    (l.names.0.now ∷ l.names.1.now ∷ l.names.2.now ∷ l.names.3.now ∷ l.names.4.now ∷ []) l.count (map data_of l.found)
