use Rattle.std.proofs.Common.{◌≡◌, map, drop}
use Rattle.std.specs.List.{list_any}
use Rattle.seccomp_faults.specs.Table.{names, row_of}
use Rattle.seccomp_faults.proofs.part.is_key.Given as goal

abbrev pub invariant-loop-rule : goal.invariant-loop-rule
invariant-loop-rule l =
    list_any (names l.key) (map row_of (drop l.rule-index l.rule-items)) ≡ list_any (names l.key) (map row_of l.rule-items)
