use Rattle.std.proofs.Common.{◌≡◌, [], All, subst}
use Rattle.std.specs.Prelude.{Contains}
use Rattle.std.proofs.lemmas.List.{take_all}
use Rattle.seccomp_learn.specs.declared.observation.Observation.{Observation}
use Rattle.seccomp_learn.proofs.Differences.{different_more, gathered_more, passed_more}
use Rattle.seccomp_learn.proofs.limits.observations_of.Goals as goal

pub loop-observation-preserved-then-observation-number : goal.loop-observation-preserved-then-observation-number
loop-observation-preserved-then-observation-number c = record {
  among = c.loop-observation.invariant.among;
  all = passed_more [] c.args.observed.now c.args.number c.loop-observation.own.items c.loop-observation.observation-index _
      c.loop-observation-test.true c.if-observation-number.true c.loop-observation.invariant.all;
}

pub loop-observation-preserved : goal.loop-observation-preserved
loop-observation-preserved c =
    let observed = c.args.observed.now in
    let own = c.loop-observation.own.items in
    record {
      among = different_more [] observed c.args.number own _ c.loop-observation.observation-index _ c.loop-observation-test.true
          c.in_ok-push.ensures.items c.if-observation-number.false c.loop-observation.invariant.among;
      all = gathered_more [] observed c.args.number own _ c.loop-observation.observation-index _ c.loop-observation-test.true
          c.in_ok-push.ensures.items c.loop-observation.invariant.all;
    }

pub returns-clause-all : goal.returns-clause-all
returns-clause-all c =
    subst (All (λ (o : Observation). o.number ≡ c.args.number → Contains c.loop-observation.own.items o))
    (take_all c.loop-observation.observation-index c.args.observed.now c.loop-observation-test.false) c.loop-observation.invariant.all
