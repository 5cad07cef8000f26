use Rattle.seccomp_tree.proofs.Common.{drop, take, drop_all, take_rest, length-take-le, length, arith, get_or, load, sym, ap, Ruling}
use Rattle.seccomp_tree.proofs.Common.{List, [], ◌+◌, ◌-◌, ◌++◌, ◌∷◌, ◌∙◌, ◌≡◌, ◌<◌, ◌≤◌, ℕ}
use Rattle.seccomp_tree.proofs.Parts.{Chain, IsLoaded, chain_none, chain_skip, chain_test, chain_done, parted_drop, take_back, whole}
use Rattle.seccomp_tree.proofs.Parts.{in_turn_none, in_turn_more, in_turn_before, drop_parts, masked}
use Rattle.seccomp_tree.proofs.Decided.{drop_at, drop_back}
use Rattle.seccomp_tree.specs.Parts.{AreParted, compared}
use Rattle.seccomp_tree.specs.declared.parting.Part.{Part}
use Rattle.seccomp_tree.proofs.code.Code.+group.Goals.{parted-After-compared-value, parted-then-shared-ne4294967295+in_ok-push}
use Rattle.seccomp_tree.proofs.code.Code.+group.Goals.{parted-else-shared-ne4294967295}
use Rattle.seccomp_tree.proofs.code.Code.+group.Goals as goal

pub parted-loop-left-init : goal.parted-loop-left-init
parted-loop-left-init t c = rw (drop_all (length c.args.rulings.now) c.args.rulings.now (omega arith)) (chain_none _ c.requires.after)

abbrev ruling : {t : ℕ} → parted-After-compared-value t → Ruling
ruling c = c.index-rulings-left.result

module _ {t : ℕ} (c : parted-After-compared-value t) where
  here : drop (c.loop-left.left - 1) c.args.rulings.now ≡ ruling c ∷ drop c.loop-left.left c.args.rulings.now
  here = drop_back c.args.rulings.now c.loop-left.left (ruling c) c.loop-left-test.true c.loop-left.auto.left c.index-rulings-left.is

  value : c.compared-value.result.value ≡ (compared (ruling c).conditions).value
  value = ap (λ (x : Part). x.value) c.compared-value.ensures.is

  parted : AreParted c.args.shared (ruling c ∷ drop c.loop-left.left c.args.rulings.now)
  parted = rw here at (parted_drop c.args.shared (c.loop-left.left - 1) c.args.rulings.now c.requires.parted)

  so_far : Chain c.args.shared (take (c.loop-left.left - 1) c.args.rulings.now ++ ruling c ∷ []) (drop c.loop-left.left c.args.rulings.now)
      c.args.self.now c.args.after c.loop-left.target c.loop-left.self
  so_far = rw (take_back c.args.rulings.now c.loop-left.left (ruling c) c.loop-left-test.true c.loop-left.auto.left c.index-rulings-left.is)
      at c.loop-left.invariant

pub parted-loop-left-preserved-then-not-occurs : goal.parted-loop-left-preserved-then-not-occurs
parted-loop-left-preserved-then-not-occurs t c =
    let b = (goal.at.parted-loop-left-preserved-then-not-occurs t c).After-compared-value in
    rw (here b) (chain_test _ (so_far b) (parted b) (rw (value b) at (sym c.occurs.ensures ∙ c.if-not-occurs.true))
    (rw (c.deref.ensures.value, c.in_ok-others.ensures, take_rest c.args.rulings.now (c.loop-left.left - 1), here b, value b)
    at c.in_ok-yes.ensures)
    (rw (value b) at c.in_ok-target.ensures))

pub parted-loop-left-preserved : goal.parted-loop-left-preserved
parted-loop-left-preserved t c =
    let b = (goal.at.parted-loop-left-preserved t c).After-compared-value in
    rw (here b) (chain_skip _ (so_far b) (parted b) (rw (value b) at (sym c.occurs.ensures ∙ c.if-not-occurs.false)))

pub parted-returns : goal.parted-returns
parted-returns t c =
    let none : c.loop-left.left ≡ 0 = omega arith in
    let chain = rw none at c.loop-left.invariant in
    let loads : c.push-2.new.self ≡ load c.args.shared.byte ∷ c.if-shared-ne4294967295.self =
    cc (c.in_ok-push-2.ensures, c.bpf_stmt-2.ensures, c.from.ensures) in
    let loaded : IsLoaded c.args.shared c.loop-left.self c.push-2.new.self = elim c.if-shared-ne4294967295.branch [
      | parted-then-shared-ne4294967295+in_ok-push w ↦ masked (cc (loads, w.self-is, w.in_ok-push.ensures, w.bpf_stmt.ensures))
      | parted-else-shared-ne4294967295 w ↦ whole (omega (arith, w.if-shared-ne4294967295.false)) (cc (loads, w.self-is))
    ] in
    rw c.len.ensures (chain_done chain c.requires.parted c.requires.some c.requires.inside_record loaded)

-- the last of the rulings
last_is : (rulings : List Ruling) (d : Ruling) → 1 ≤ length rulings → d ≡ get_or rulings (length rulings - 1) d
    → drop (length rulings - 1) rulings ≡ d ∷ []
last_is rulings d some is = drop_at rulings (length rulings - 1) d (omega (arith, some)) is
    ∙ ap (λ l. d ∷ l) (drop_all (length rulings - 1 + 1) rulings (omega arith))

pub group-returns-then-again-gt0 : goal.group-returns-then-again-gt0
group-returns-then-again-gt0 t c =
    let here = last_is c.args.rulings.now c.index-rulings-last.result c.requires.some c.index-rulings-last.is in
    record {
      below = omega (arith, c.if-start-last.true);
      alone = λ h. c.group_start-start.ensures.alone (c.is_alone.ensures.1 (rw here at h).0);
      turn = rw (take_rest c.args.rulings.now c.group_start-start.result) at c.in_ok-target.ensures;
    }

pub group-returns : goal.group-returns
group-returns t c =
    let d = c.index-rulings-last.result in
    let here = last_is c.args.rulings.now d c.requires.some c.index-rulings-last.is in
    let items : c.deref.result.now ≡ d.conditions = c.deref.ensures.value ∙ ap (λ (x : Ruling). x.conditions) c.ruling.view_is in
    let value : c.ruling.inside.value ≡ d.value = ap (λ (x : Ruling). x.value) c.ruling.view_is in
    record {
      below = omega (arith, c.requires.some);
      alone = λ h. h;
      turn = rw here (in_turn_more d.conditions d.value [] (in_turn_none c.requires.after)
          (rw (items, value) at c.in_ok-target-2.ensures));
    }

pub in_turn-loop-left-init : goal.in_turn-loop-left-init
in_turn-loop-left-init t c = rw (drop_all (length c.args.rulings.now) c.args.rulings.now (omega arith)) record {
  within = omega arith;
  turn = in_turn_none c.requires.after;
}

pub in_turn-loop-left-preserved : goal.in_turn-loop-left-preserved
in_turn-loop-left-preserved t c =
    let rulings = c.args.rulings.now in
    let group = c.in_ok-left.ensures in
    let left = c.loop-left.left in
    let start = c.in_ok-left.field-0-0 in
    let long = length-take-le left rulings c.loop-left.invariant.within in
    let less : start < left = omega (arith, group.below, long) in
    record {
      within = omega (arith, less, c.loop-left.invariant.within);
      turn = rw (← drop_parts start left rulings (omega (arith, less)))
          (in_turn_before (drop start (take left rulings)) (drop left rulings) c.loop-left.invariant.turn group.turn);
    }

pub in_turn-returns : goal.in_turn-returns
in_turn-returns t c = let none : c.loop-left.left ≡ 0 = omega (arith, c.loop-left-test.false) in rw none at c.loop-left.invariant.turn
