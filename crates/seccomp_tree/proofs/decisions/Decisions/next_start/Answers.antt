use Rattle.seccomp_tree.proofs.Common.{nat_tests, arith, inl, ◌^◌, ◌≤◌, ap, ℕ}
use Rattle.seccomp_tree.proofs.Decided.{same_from, items_of, none_to}
use Rattle.std.proofs.lemmas.Grind.{common_steps}
use Rattle.seccomp_tree.proofs.decisions.Decisions.next_start.Goals as goal

pub loop-default-init : goal.loop-default-init
loop-default-init c = rw (← c.self.view_is) (elim c.match-next.branch [
  | goal.in-Some w ↦
      let least = λ (n : ℕ) (le : c.args.number ≤ n).
      rw w.in-Some.ensures.steps at ((c.range-from_here.ensures.in_range tt).2 n (grind (arith, nat_tests), tt)) in
      rw w.next-is record {
        above = grind (arith, nat_tests);
        within = grind (arith, nat_tests);
        none = λ k d lt. absurd (omega arith);
        rulings = none_to c.self.inside.calls.entries w.from.result (grind (arith, nat_tests))
            (λ n le lt. grind (arith, nat_tests, least n le, lt));
      }
  | goal.in-None w ↦ rw w.next-is record {
    above = omega arith;
    within = omega arith;
    none = λ k d lt. absurd (omega arith);
    rulings = none_to c.self.inside.calls.entries (2 ^ 32) (inl (omega arith))
        (λ n le lt. ap items_of ((c.range-from_here.ensures.in_range tt).5 w.in-None.ensures.steps.0 n (grind (arith, nat_tests), tt)));
  }
])

pub returns-clause-default : goal.returns-clause-default
returns-clause-default c = λ n le lt.
    same_from 0 c.args.self.now.defaults c.args.number n (λ k d inside. grind (arith, c.loop-default.invariant.none k d)) le

pub loop-default-preserved : goal.loop-default-preserved
loop-default-preserved c = grind (arith, common_steps)
