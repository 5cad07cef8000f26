use Rattle.std.proofs.Common.{◌≤◌, List, All, arith, length, subst}
use Rattle.std.specs.Prelude.{Any, Contains}
use Rattle.seccomp_learn.specs.Observed.{IsSeenAlike}
use Rattle.seccomp_learn.specs.declared.observation.Observation.{Observation}
use Rattle.seccomp_learn.proofs.Differences.{alike_all, own_all}
use Rattle.seccomp_learn.proofs.limits.has_more.Goals as goal

pub returns-clause-more : goal.returns-clause-more
returns-clause-more c = λ yes. record {
  different = c.in_ok-different.different.items;
  among = own_all c.args.observed.now c.args.number c.in_ok-own.own.items _
      (subst (λ (own : List Observation). All (Contains own) c.in_ok-different.different.items) c.deref.ensures.value
      c.in_ok-different.ensures.among) c.in_ok-own.ensures.among;
  apart = c.in_ok-different.ensures.apart;
  more = grind (arith, yes);
}

pub returns-clause-few : goal.returns-clause-few
returns-clause-few c = λ no.
    let few : length c.in_ok-different.different.items ≤ c.args.limit = grind (arith, no) in
    record {
      some = c.in_ok-different.different.items;
      few = few;
      each = alike_all c.args.kept.now c.args.observed.now c.args.number c.in_ok-own.own.items _ c.in_ok-own.ensures.all
          (subst (λ (own : List Observation).
          All (λ (o : Observation). Any (λ other. IsSeenAlike c.args.kept.now other o) c.in_ok-different.different.items) own)
          c.deref.ensures.value (c.in_ok-different.ensures.alike few));
    }
