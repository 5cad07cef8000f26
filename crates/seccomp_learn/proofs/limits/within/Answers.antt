use Rattle.std.proofs.Common.{◌≡◌, ◌⊎◌, IsTrue, All, false, subst, rules}
use Rattle.std.specs.Prelude.{Contains}
use Rattle.std.proofs.lemmas.List.{take_all}
use Rattle.seccomp_learn.specs.Observed.{HasMoreValues}
use Rattle.seccomp_learn.proofs.Differences.{among_more, dropped_more, few_more, left_more}
use Rattle.seccomp_learn.proofs.limits.within.Goals as goal

pub loop-each-preserved-then-branch : goal.loop-each-preserved-then-branch
loop-each-preserved-then-branch c =
    let more : IsTrue c.in_ok-has_more.field-0 = search rules in
    record {
      among = c.loop-each.invariant.among;
      few = c.loop-each.invariant.few;
      left_out = dropped_more c.args.limit c.args.kept.now c.args.observed.now _ c.loop-each.each-index _ c.loop-each-test.true
          c.loop-each.invariant.left_out (c.in_ok-has_more.ensures.more more);
    }

pub loop-each-preserved : goal.loop-each-preserved
loop-each-preserved c =
    let kept = c.args.kept.now in
    let no : c.in_ok-has_more.field-0 ≡ false = search rules in
    record {
      few = few_more c.args.limit kept c.args.observed.now _ _ c.loop-each.each-index _ c.in_ok-push.ensures.items
          c.loop-each.invariant.few (c.in_ok-has_more.ensures.few no);
      among = among_more kept _ _ c.loop-each.each-index _ c.loop-each-test.true c.in_ok-push.ensures.items c.loop-each.invariant.among;
      left_out = left_more c.args.limit kept c.args.observed.now _ _ c.loop-each.each-index _ c.loop-each-test.true
          c.in_ok-push.ensures.items c.loop-each.invariant.left_out;
    }

pub returns-clause-left_out : goal.returns-clause-left_out
returns-clause-left_out c = subst
    (All (λ each. Contains c.loop-each.left.items each ⊎ HasMoreValues c.args.limit c.args.kept.now c.args.observed.now each.number))
    (take_all c.loop-each.each-index c.args.kept.now c.loop-each-test.false) c.loop-each.invariant.left_out
