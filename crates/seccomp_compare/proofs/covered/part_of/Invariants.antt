use Rattle.std.proofs.Common.{ℕ, List, take}
use Rattle.seccompiler.specs.Machine.{IsRecord}
use Rattle.seccompiler.specs.Policy.{RuleHolds}
use Rattle.seccomp_compare.specs.Cover.{KnowsFixed}
use Rattle.seccomp_compare.specs.Known.{AreKept, HasKnown}
use Rattle.seccomp_compare.proofs.covered.part_of.Given as goal

-- what the conditions so far fix is known
abbrev pub invariant-loop-condition : goal.invariant-loop-condition
invariant-loop-condition l = record {
  kept : AreKept l.part;
  known : (r : List ℕ) → IsRecord r → RuleHolds (take l.condition-index l.own) r → HasKnown l.part r;
  fixed : KnowsFixed (take l.condition-index l.own) l.part;
}
