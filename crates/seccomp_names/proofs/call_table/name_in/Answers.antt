use Rattle.std.proofs.Common.{◌≡◌, ℕ, List, All, take, length, slice_index_or, sym, subst, arith}
use Rattle.std.specs.List.{zip}
use Rattle.std.proofs.lemmas.Iterator.{YieldsList-from_slice, YieldsList-from_zip}
use Rattle.std.proofs.lemmas.Iterator.Consumers.{YieldsList-at, YieldsList-end, YieldsList-turn}
use Rattle.std.proofs.lemmas.Iterator.Splits.{YieldsList-from_str_split}
use Rattle.std.proofs.lemmas.List.{length_push, take_all}
use Rattle.std.proofs.lemmas.List.Elements.{All-more}
use Rattle.seccomp_names.specs.CallTables.{words}
use Rattle.seccomp_names.proofs.call_table.name_in.Goals as goal

pub returns-then-own-number-clause-some : goal.returns-then-own-number-clause-some
returns-then-own-number-clause-some c =
    let turn = YieldsList-turn (YieldsList-at c.into_iter-name-iterator.ensures.into_iter_gives
    (YieldsList-from_zip (YieldsList-at c.zip-name-items.ensures.first (YieldsList-from_str_split 32 c.args.names.now (omega arith)
    c.split.ensures.text c.split.ensures.has_more c.split.ensures.pattern)) (YieldsList-from_slice c.args.numbers.now cc)))
    c.loop-name.yielded c.loop-name.name-iterator c.loop-name.yielded_by c.next.result c.next.new.self
    (c.in-Some.name, c.in-Some.own) c.in-Some.is c.next.ensures.steps in (
      length c.loop-name.yielded,
      turn.0,
      subst (λ n. slice_index_or (zip (words c.args.names.now) c.args.numbers.now)
          (length c.loop-name.yielded) (c.in-Some.name.now, n) ≡ (c.in-Some.name.now, n)) c.if-own-number.true (sym turn.1),
    )

pub loop-name-preserved : goal.loop-name-preserved
loop-name-preserved c =
    let turn = YieldsList-turn (YieldsList-at c.into_iter-name-iterator.ensures.into_iter_gives
    (YieldsList-from_zip (YieldsList-at c.zip-name-items.ensures.first (YieldsList-from_str_split 32 c.args.names.now (omega arith)
    c.split.ensures.text c.split.ensures.has_more c.split.ensures.pattern)) (YieldsList-from_slice c.args.numbers.now cc)))
    c.loop-name.yielded c.loop-name.name-iterator c.loop-name.yielded_by c.next.result c.next.new.self
    (c.in-Some.name, c.in-Some.own) c.in-Some.is c.next.ensures.steps in
    let all = zip (words c.args.names.now) c.args.numbers.now in
    let P = λ (pair : List ℕ × ℕ). pair.1 ≡ c.args.number → ⊥ in
    subst (λ n. All P (take n all)) (sym (length_push c.loop-name.yielded (c.in-Some.name, c.in-Some.own)))
    (All-more P all (length c.loop-name.yielded) (c.in-Some.name.now, c.in-Some.own.now) turn.0 c.loop-name.invariant
    (subst P turn.1 c.if-own-number.false))

pub returns-clause-none : goal.returns-clause-none
returns-clause-none c =
    let end = YieldsList-end (YieldsList-at c.into_iter-name-iterator.ensures.into_iter_gives
    (YieldsList-from_zip (YieldsList-at c.zip-name-items.ensures.first (YieldsList-from_str_split 32 c.args.names.now (omega arith)
    c.split.ensures.text c.split.ensures.has_more c.split.ensures.pattern)) (YieldsList-from_slice c.args.numbers.now cc)))
    c.loop-name.yielded c.loop-name.name-iterator c.loop-name.yielded_by c.next.result c.next.new.self
    c.in-None.is c.next.ensures.steps in
    let all = zip (words c.args.names.now) c.args.numbers.now in
    subst (All (λ (pair : List ℕ × ℕ). pair.1 ≡ c.args.number → ⊥)) (take_all (length c.loop-name.yielded) all (omega (arith, end.1)))
    c.loop-name.invariant
