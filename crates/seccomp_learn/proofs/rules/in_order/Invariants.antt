use Rattle.std.proofs.Common.{◌++◌}
use Rattle.std.specs.List.Sorted.{IsPermutation}
use Rattle.std.specs.Vec.Iter.{into_iter_items}
use Rattle.seccomp_learn.specs.Parts.{MeetAlike}
use Rattle.seccomp_learn.proofs.rules.in_order.Given as goal

abbrev pub invariant-loop-rule : goal.invariant-loop-rule
invariant-loop-rule l = record {
  all : IsPermutation l.fn.rules.items (l.yielded ++ into_iter_items l.rule-iterator);
  alike : MeetAlike l.yielded l.left.items;
}
