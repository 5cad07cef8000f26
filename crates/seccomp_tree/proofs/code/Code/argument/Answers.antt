use Rattle.seccomp_tree.proofs.Trees.{halving_done, low_word, is_argument, halving_on, are_all, lows_in, IsPast, none}
use Rattle.seccomp_tree.proofs.Common.{IfOk-weaker, arith, rules, drop, ◌^◌, ◌∙◌, ◌≡◌}
use Rattle.seccomp_tree.proofs.Begun.{first_start, byte_is, moves}
use Rattle.seccomp_tree.proofs.code.Code.argument.Goals.{After-map_or-end}
use Rattle.seccomp_tree.proofs.code.Code.argument.Goals as goal

pub returns-in-Dword : goal.returns-in-Dword
returns-in-Dword c = rw c.in-Dword.is (IfOk-weaker c.word.result _ _ (λ t h. record {
  grows = h.grows;
  inside = h.inside;
  leads = λ r rec w n k few lead. h.leads r rec w n k few (rw (← low_word r c.args.index rec) lead);
}) c.word.ensures)

-- where the next step starts
end_is : (c : After-map_or-end) → c.map_or-end.result ≡ first_start (2 ^ 64) (drop 1 c.loop-number.rest.now)
end_is c = search rules

pub word-requires-then-high-last : goal.word-requires-then-high-last
word-requires-then-high-last c =
    let h = lows_in c.loop-number.rest.now none c.loop-number.invariant c.loop-number-test.true
    (end_is ((goal.at.word-requires-then-high-last c).After-map_or-end)) c.in_ok-push_step.ensures
    (rw c.in_default.is at c.requires.inside) in
    rw c.deref.ensures.value record { aligned = omega arith; inside_record = omega arith; are = h.0; inside = h.1 }

pub loop-number-preserved : goal.loop-number-preserved
loop-number-preserved c =
    let ends = end_is ((goal.at.loop-number-preserved c).After-map_or-end) in
    let moved = moves c.from.result c.turn-number.result c.map_or-end.result c.loop-number.rest.now (c.from.ensures ∙ byte_is _) in
    let which : IsPast c.loop-number.number c.map_or-end.result c.if-number-eq0.past = grind arith in
    elim c.if-high-last.branch [
      | goal.then-high-last+in_ok-target+in_ok-push_step-2 w ↦
          rw (w.self-is, w.highs-is, w.lows-is, w.new-lows-then-high-last.ensures.items) (halving_done c.loop-number.rest.now none
          c.loop-number.invariant c.loop-number-test.true ends c.in_ok-push_step.ensures c.turn-number.result c.if-number-eq0.past _ _
          w.in_ok-target.target _ c.turn-number.ensures which moved w.if-high-last.true
          (rw w.deref.ensures.value at w.in_ok-target.ensures) w.in_ok-push_step-2.ensures)
      | goal.else-high-last w ↦ rw (w.self-is, w.highs-is, w.lows-is) (halving_on c.loop-number.rest.now none c.loop-number.invariant
          c.loop-number-test.true ends c.in_ok-push_step.ensures c.turn-number.result c.if-number-eq0.past _ c.turn-number.ensures which
          moved (omega (arith, w.if-high-last.false)))
    ]

pub word-requires-2-clause-are : goal.word-requires-2-clause-are
word-requires-2-clause-are c = rw c.deref-2.ensures.value (are_all c.loop-number.invariant c.loop-number-test.false)

pub returns : goal.returns
returns c =
    let size = c.in_default.is in
    IfOk-weaker c.word-2.result _ _
    (λ t k. rw size (is_argument c.loop-number.invariant c.loop-number-test.false t c.word-2.new.self (rw c.deref-2.ensures.value at k)))
    c.word-2.ensures
