use Rattle.std.proofs.Common.{◌≡◌, All, IsTrue, false, rules, subst}
use Rattle.std.specs.Prelude.{Any}
use Rattle.std.proofs.lemmas.List.{take_all}
use Rattle.seccomp_learn.specs.Observed.{IsSeenAlike}
use Rattle.seccomp_learn.specs.declared.observation.Observation.{Observation}
use Rattle.seccomp_learn.proofs.Differences.{alike_more, alike_same, among_more, apart_more}
use Rattle.seccomp_learn.proofs.limits.different_in.Goals as goal

pub loop-observation-preserved-then-not-is_new : goal.loop-observation-preserved-then-not-is_new
loop-observation-preserved-then-not-is_new c =
    let kept = c.args.kept.now in
    let no : c.is_new.result ≡ false = search rules in
    record {
      among = c.loop-observation.invariant.among;
      apart = c.loop-observation.invariant.apart;
      alike = alike_same kept c.args.own.now c.loop-observation.different.items _ c.loop-observation.observation-index _
          c.loop-observation-test.true c.deref.ensures.value (c.is_new.ensures.alike no) c.loop-observation.invariant.alike;
    }

pub loop-observation-preserved : goal.loop-observation-preserved
loop-observation-preserved c =
    let kept = c.args.kept.now in
    let own = c.args.own.now in
    let different = c.loop-observation.different.items in
    let new : IsTrue c.is_new.result = search rules in
    record {
      among = among_more own different _ c.loop-observation.observation-index _ c.loop-observation-test.true
          c.in_ok-push.ensures.items c.loop-observation.invariant.among;
      apart = apart_more kept own 0 different _ _ _ c.in_ok-push.ensures.items c.deref.ensures.value
          c.loop-observation.invariant.apart (c.is_new.ensures.apart new);
      alike = alike_more kept own different _ c.loop-observation.observation-index _ c.loop-observation-test.true
          c.in_ok-push.ensures.items c.loop-observation.invariant.alike;
    }

pub returns-clause-alike : goal.returns-clause-alike
returns-clause-alike c = λ _.
    let kept = c.args.kept.now in
    let different = c.loop-observation.different.items in
    subst (All (λ (o : Observation). Any (λ other. IsSeenAlike kept other o) different))
    (take_all c.loop-observation.observation-index c.args.own.now c.loop-observation-test.false) c.loop-observation.invariant.alike
