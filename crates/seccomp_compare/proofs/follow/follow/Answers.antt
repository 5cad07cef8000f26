use Rattle.std.proofs.lemmas.Option.{slice_get-get_or}
use Rattle.seccomp_compare.proofs.StepsOnSets.{reaches_on}
use Rattle.seccomp_compare.proofs.follow.follow.Goals as goal

pub loop-at-preserved : goal.loop-at-preserved
loop-at-preserved c = record {
  reaches = λ r rec in_set from.
      reaches_on c.args.prog.now r c.loop-at.at c.in-Some.next _
      (slice_get-get_or c.args.prog.now c.loop-at.at.place _ c.loop-at.invariant.within)
      (c.in-Some.ensures.does r rec in_set)
      (c.loop-at.invariant.reaches r rec in_set from);
  within = c.in-Some.ensures.within;
  word = c.in-Some.ensures.word;
}
