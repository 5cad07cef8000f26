use Rattle.std.proofs.Common.{ℕ, ◌-◌, ◌<◌, length, List}
use Rattle.seccompiler.specs.Machine.{IsRecord}
use Rattle.seccomp_compare.specs.RecordSets.{IsIn, Reaches}
use Rattle.seccomp_compare.proofs.follow.follow.Given as goal

-- all records of the set come here, and each step leads on
abbrev pub invariant-loop-at : goal.invariant-loop-at
invariant-loop-at l = record {
  reaches : (r : List ℕ) → IsRecord r → IsIn l.part r → Reaches l.prog r l.fn.from → Reaches l.prog r l.at;
  within : l.at.place < length l.prog;
  word : l.at.word < 16;
}

abbrev pub decreases-loop-at : goal.decreases-loop-at
decreases-loop-at l = length l.initial.prog - l.at.place
