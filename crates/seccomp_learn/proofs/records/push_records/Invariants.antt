use Rattle.std.proofs.Common.{length}
use Rattle.seccomp_learn.proofs.records.push_records.Given as goal

abbrev pub decreases-loop-record : goal.decreases-loop-record
decreases-loop-record l = length l.rest
