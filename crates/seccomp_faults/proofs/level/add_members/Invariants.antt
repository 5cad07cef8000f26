use Rattle.std.proofs.Common.{◌≡◌, ◌++◌, List, All}
use Rattle.serde_json.specs.View.{members_view}
use Rattle.serde_json.proofs.Views.{Entry}
use Rattle.seccomp_faults.proofs.Parts.{IsPart, object}
use Rattle.seccomp_faults.proofs.level.add_members.Given as goal

abbrev pub invariant-loop-key : goal.invariant-loop-key
invariant-loop-key l = (done : List Entry) × (l.members.entries ≡ done ++ l.key-iterator)
    × (All (IsPart l.target l.form (object (members_view l.members.entries))) l.fn.parts.items
    → All (IsPart l.target l.form (object (members_view l.members.entries))) l.parts.items)
