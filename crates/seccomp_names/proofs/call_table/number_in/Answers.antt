use Rattle.std.proofs.Common.{true, false, drop, length, sym, ap, ◌∙◌, arith}
use Rattle.std.specs.List.{zip}
use Rattle.std.specs.Map.{lookup}
use Rattle.std.specs.Str.{bytes_eq}
use Rattle.std.proofs.lemmas.Iterator.{YieldsList-from_slice, YieldsList-from_zip}
use Rattle.std.proofs.lemmas.Iterator.Consumers.{YieldsList-at, YieldsList-end, YieldsList-turn}
use Rattle.std.proofs.lemmas.Iterator.Splits.{YieldsList-from_str_split}
use Rattle.std.proofs.lemmas.List.{at_drop_all, length_push}
use Rattle.seccomp_names.specs.CallTables.{words}
use Rattle.seccomp_names.proofs.call_table.Looked.{looked_here}
use Rattle.seccomp_names.proofs.call_table.number_in.Goals as goal

pub returns-then-eq : goal.returns-then-eq
returns-then-eq c =
    let turn = YieldsList-turn (YieldsList-at c.into_iter-own-iterator.ensures.into_iter_gives
    (YieldsList-from_zip (YieldsList-at c.zip-own-items.ensures.first (YieldsList-from_str_split 32 c.args.names.now (omega arith)
    c.split.ensures.text c.split.ensures.has_more c.split.ensures.pattern)) (YieldsList-from_slice c.args.numbers.now cc)))
    c.loop-own.yielded c.loop-own.own-iterator c.loop-own.yielded_by c.next.result c.next.new.self
    (c.in-Some.own, c.in-Some.number) c.in-Some.is c.next.ensures.steps in
    let all = zip (words c.args.names.now) c.args.numbers.now in
    sym (looked_here c.args.name.now c.in-Some.own.now all (length c.loop-own.yielded) c.in-Some.number.now true turn.0 turn.1
    (sym c.eq.ensures ∙ c.if-eq.true)) ∙ c.loop-own.invariant

pub loop-own-preserved : goal.loop-own-preserved
loop-own-preserved c =
    let turn = YieldsList-turn (YieldsList-at c.into_iter-own-iterator.ensures.into_iter_gives
    (YieldsList-from_zip (YieldsList-at c.zip-own-items.ensures.first (YieldsList-from_str_split 32 c.args.names.now (omega arith)
    c.split.ensures.text c.split.ensures.has_more c.split.ensures.pattern)) (YieldsList-from_slice c.args.numbers.now cc)))
    c.loop-own.yielded c.loop-own.own-iterator c.loop-own.yielded_by c.next.result c.next.new.self
    (c.in-Some.own, c.in-Some.number) c.in-Some.is c.next.ensures.steps in
    let all = zip (words c.args.names.now) c.args.numbers.now in
    ap (λ n. lookup (bytes_eq c.args.name.now) (drop n all)) (length_push c.loop-own.yielded (c.in-Some.own, c.in-Some.number))
    ∙ sym (looked_here c.args.name.now c.in-Some.own.now all (length c.loop-own.yielded) c.in-Some.number.now false turn.0 turn.1
    (sym c.eq.ensures ∙ c.if-eq.false)) ∙ c.loop-own.invariant

pub returns : goal.returns
returns c =
    let end = YieldsList-end (YieldsList-at c.into_iter-own-iterator.ensures.into_iter_gives
    (YieldsList-from_zip (YieldsList-at c.zip-own-items.ensures.first (YieldsList-from_str_split 32 c.args.names.now (omega arith)
    c.split.ensures.text c.split.ensures.has_more c.split.ensures.pattern)) (YieldsList-from_slice c.args.numbers.now cc)))
    c.loop-own.yielded c.loop-own.own-iterator c.loop-own.yielded_by c.next.result c.next.new.self
    c.in-None.is c.next.ensures.steps in
    sym (at_drop_all (lookup (bytes_eq c.args.name.now)) (zip (words c.args.names.now) c.args.numbers.now) (length c.loop-own.yielded)
    (omega (arith, end.1))) ∙ c.loop-own.invariant
