use Rattle.seccomp_tree.proofs.Meeting.{rules_settled, answered_one, first_alone, joined_alike, alike_self, joined_few, joined_none}
use Rattle.seccomp_tree.proofs.Meeting.{rules_parts, AreRules, front_is, in_front}
use Rattle.seccomp_tree.proofs.Parts.{alone_joined, alone_last, drop_parts, rules_in_turn}
use Rattle.seccomp_tree.proofs.Common.{Condition, one_value, to_return, drop-drop, drop_all, Option, Ruling, joined, [], length}
use Rattle.seccomp_tree.proofs.Common.{length-drop, length-take-le, rules_length, take, arith, rules, List, None, drop, only, refl, suc}
use Rattle.seccomp_tree.proofs.Common.{sym, ◌+◌, ◌-◌, ◌<◌, ◌∙◌, ◌∷◌, ◌≡◌, ◌≤◌, ap}
use Rattle.seccomp_tree.proofs.{Decided.drop_back, Runs.grows_not}
use Rattle.seccomp_tree.proofs.code.Code.rules.Goals.{After-only}
use Rattle.seccomp_tree.proofs.code.Code.rules.Goals as goal

pub returns-in-None-clause-answer : goal.returns-in-None-clause-answer
returns-in-None-clause-answer c = answered_one _ _ c.args.rulings.now c.ranges.default.fits (search rules)

pub returns-in-Some-clause-answer : goal.returns-in-Some-clause-answer
returns-in-Some-clause-answer c = answered_one _ _ c.args.rulings.now (search rules) (search rules)

pub loop-left-init : goal.loop-left-init
loop-left-init c =
    let none = drop_all (length c.args.rulings.now) c.args.rulings.now (omega arith) in
    rw none record {
      within = omega arith;
      ends = omega arith;
      rules = record {
        grows = grows_not c.args.self.now 0;
        inside = c.ranges.default.fits;
        leads = λ r rec n takes a small. to_return c.args.default a (n + 1) (omega arith);
      };
    }

abbrev ruling : After-only → Ruling
ruling c = c.index-rulings-left.result

-- the rulings behind this one, and those that are of one run with it
abbrev rest : After-only → List Ruling
rest c = drop c.loop-left.left c.args.rulings.now

module _ (c : After-only) where
  from_here : drop (c.loop-left.left - 1) c.args.rulings.now ≡ ruling c ∷ rest c
  from_here = drop_back c.args.rulings.now c.loop-left.left (ruling c) c.loop-left-test.true c.loop-left.invariant.within
      c.index-rulings-left.is

  own : (o : Option Condition) → c.only.result ≡ o → only (ruling c).conditions ≡ o
  own o given = sym c.only.ensures ∙ given

  ends : c.loop-left.end ≡ c.loop-left.left + joined (ruling c).conditions (rest c)
  ends =
      let front = front_is c.args.rulings.now c.loop-left.left (ruling c) c.loop-left-test.true c.loop-left.invariant.within
      c.index-rulings-left.is in rw front at c.loop-left.invariant.ends

  within : c.loop-left.end ≤ length c.args.rulings.now
  within = omega (arith, ends, joined_few (ruling c).conditions (rest c), length-drop c.loop-left.left c.args.rulings.now)

  -- the run from this one on
  run_is : take (c.loop-left.end - (c.loop-left.left - 1)) (drop (c.loop-left.left - 1) c.args.rulings.now)
      ≡ ruling c ∷ take (joined (ruling c).conditions (rest c)) (rest c)
  run_is =
      let many : c.loop-left.end - (c.loop-left.left - 1) ≡ suc (joined (ruling c).conditions (rest c)) =
      omega (arith, ends, c.loop-left-test.true) in
      rw (from_here, many) refl

  -- what is behind it
  after : AreRules c.args.self.now (drop (joined (ruling c).conditions (rest c)) (rest c)) c.args.default c.loop-left.after c.loop-left.self
  after =
      let behind = ap (λ n. drop n c.args.rulings.now) ends
      ∙ sym (drop-drop (joined (ruling c).conditions (rest c)) c.loop-left.left c.args.rulings.now) in
      rw behind at c.loop-left.invariant.rules

  -- and what is behind one that is of no run
  after_alone : c.only.result ≡ None → AreRules c.args.self.now (rest c) c.args.default c.loop-left.after c.loop-left.self
  after_alone given = rw (joined_none (ruling c).conditions (rest c) (own None given)) at after

pub slice_bounds-run-end : goal.slice_bounds-run-end
slice_bounds-run-end c = let b = (goal.at.slice_bounds-run-end c).After-only in omega (arith, within b)

pub run-requires-clause-alike : goal.run-requires-clause-alike
run-requires-clause-alike c =
    let b = (goal.at.run-requires-clause-alike c).After-only in
    let d = c.index-rulings-left.result in
    let one = alike_self d.conditions _ (own b _ c.in-Some-only.is) in
    rw (run_is b) (one, joined_alike d.conditions _ (rest b) one)

pub returns-in_err-after-in-Some-only-clause-large : goal.returns-in_err-after-in-Some-only-clause-large
returns-in_err-after-in-Some-only-clause-large c =
    let left = c.loop-left.left - 1 in
    let less : rules_length (take (c.loop-left.end - left) (drop left c.args.rulings.now)) ≤ rules_length c.args.rulings.now =
    omega (arith, rules_parts (c.loop-left.end - left) (drop left c.args.rulings.now), rules_parts left c.args.rulings.now) in
    grind (arith, less, c.in_err-after-in-Some-only.ensures.large)

pub loop-left-preserved-in_ok-left-in-None-only : goal.loop-left-preserved-in_ok-left-in-None-only
loop-left-preserved-in_ok-left-in-None-only c =
    let b = (goal.at.loop-left-preserved-in_ok-left-in-None-only c).After-only in
    let group = c.in_ok-left-in-None-only.ensures in
    let start = c.in_ok-left-in-None-only.field-0-0 in
    let front = take c.loop-left.left c.args.rulings.now in
    let long = length-take-le c.loop-left.left c.args.rulings.now c.loop-left.invariant.within in
    let less : start < c.loop-left.left = omega (arith, group.below, long) in
    let some : 1 ≤ length (drop start front) = omega (arith, group.below, length-drop start front) in
    let alone = group.alone (alone_last c.args.rulings.now c.loop-left.left (ruling b) (rest b) c.loop-left-test.true
    c.loop-left.invariant.within (from_here b) (own b _ c.in-None-only.is)) in
    let none = alone_joined (in_front c.args.rulings.now start) (drop start front) (rest b) alone some in
    rw (← drop_parts start c.loop-left.left c.args.rulings.now (omega (arith, less))) record {
      within = omega (arith, less, c.loop-left.invariant.within);
      ends = rw none (omega arith);
      rules = rules_in_turn _ (drop start front) (rest b) alone (after_alone b c.in-None-only.is) group.turn;
    }

pub loop-left-preserved : goal.loop-left-preserved
loop-left-preserved c =
    let b = (goal.at.loop-left-preserved c).After-only in
    let given = own b _ c.in-Some-only.is in
    rw (from_here b) record {
      within = omega (arith, c.loop-left.invariant.within);
      ends = rw given (elim c.else-left-gt0.branch [
        | goal.else-left-gt0-via-then-left-gt0+else-joins v ↦
            let at = front_is c.args.rulings.now (c.loop-left.left - 1) _ v.if-left-gt0.true (omega (arith, c.loop-left.invariant.within))
            v.index-rulings-left-then-left-gt0.is in rw (at, sym v.joins.ensures ∙ v.if-joins.false) (omega arith)
        | goal.else-left-gt0-via-else-left-gt0 v ↦
            let zero : c.loop-left.left - 1 ≡ 0 = omega (arith, v.if-left-gt0.false) in rw zero refl
      ]);
      rules = rules_settled _ _ (rest b) given (after b) (rw (run_is b) at c.in_ok-after-in-Some-only.ensures.run);
    }

pub loop-left-preserved-then-joins : goal.loop-left-preserved-then-joins
loop-left-preserved-then-joins c =
    let b = (goal.at.loop-left-preserved-then-joins c).After-only in
    let given = own b _ c.in-Some-only.is in
    let at = front_is c.args.rulings.now (c.loop-left.left - 1) _ c.if-left-gt0.true (omega (arith, c.loop-left.invariant.within))
    c.index-rulings-left-then-left-gt0.is in
    record {
      within = omega (arith, c.loop-left.invariant.within);
      ends = rw (from_here b, at)
          (rw (given, sym c.joins.ensures ∙ c.if-joins.true) (omega (arith, ends b, c.loop-left-test.true)));
      rules = c.loop-left.invariant.rules;
    }

pub returns-clause-answer : goal.returns-clause-answer
returns-clause-answer c =
    let none : c.loop-left.left ≡ 0 = omega arith in
    let many : one_value c.args.default c.args.rulings.now ≡ None = search rules in
    let zero = rw (none, joined_none [] c.args.rulings.now refl) at c.loop-left.invariant.ends in
    let h = rw zero at c.loop-left.invariant.rules in
    record { inside = h.inside; one = λ v is. absurd (cc); leads = λ r rec w n is takes. rw (first_alone is) (h.leads r rec n takes) }
