use Rattle.std.proofs.Common.{◌≡◌, ◌+◌, ◌-◌, ◌≤◌, length, take, drop, ap, sym, ◌∙◌, subst, [], arith, length-append, ◌++◌, ◌∷◌}
use Rattle.seccompiler.specs.Code.{jump}
use Rattle.std.proofs.lemmas.List.{drop_all}
use lib.Seq.{length-take-le}
use borrow.Rule.Slice.PartMut.{put_mid}
use Rattle.seccompiler.specs.Layout.{rule_length}
use Rattle.seccompiler.specs.ChainCode.{relay_front}
use Rattle.seccompiler.specs.Pieces.{IsConditionCode}
use Rattle.seccompiler.proofs.rule.RuleCode.{entry_code}
use Rattle.seccompiler.proofs.rule.RuleLoops.{Built, built_empty, built_step, built_all, built_rule, entry_room, room_at, end_within}
use Rattle.seccompiler.proofs.Parts.{drop-written, length-part}
use Rattle.seccompiler.proofs.rule.SeccompRule.write.Goals as goal

pub loop-condition-init : goal.loop-condition-init
loop-condition-init c = let none = drop_all (length c.args.part.now) c.args.part.now (omega arith) in
    let same = c.deref-condition-items.ensures.value ∙ c.self.view_is in record {
      built = subst (λ l. Built [] l 1) (sym none) built_empty;
      free = omega (arith, ap length none, c.requires.room, ap rule_length same);
    }

pub relay_if_far-front-requires-clause-room : goal.relay_if_far-front-requires-clause-room
relay_if_far-front-requires-clause-room c = let l = c.loop-condition in
    let room = room_at _ _ _ _ _ _ c.loop-condition-test.true c.condition-item.is l.invariant.built l.invariant.free in
    omega arith

pub overflow_sub-front : goal.overflow_sub-front
overflow_sub-front c = let l = c.loop-condition in
    let room = room_at _ _ _ _ _ _ c.loop-condition-test.true c.condition-item.is l.invariant.built l.invariant.free in
    omega (arith, c.relay_if_far-front.ensures.front, c.code_len-size.ensures)

pub write-requires-clause-room : goal.write-requires-clause-room
write-requires-clause-room c = let l = c.loop-condition in
    let room = room_at _ _ _ _ _ _ c.loop-condition-test.true c.condition-item.is l.invariant.built l.invariant.free in
    let within = end_within l.end l.part c.deref-condition-items.result.now
    (omega (arith, c.requires.room, ap rule_length (c.deref-condition-items.ensures.value ∙ c.self.view_is))) l.invariant.free in
    let front = c.relay_if_far-front.ensures.front in let size = c.code_len-size.ensures in
    length-part (c.relay_if_far-front.result.0 - c.code_len-size.result) c.relay_if_far-front.result.0 c.relay_if_far-front.new.part
    (omega arith) (omega arith) ∙ omega arith

pub loop-condition-preserved : goal.loop-condition-preserved
loop-condition-preserved c = let l = c.loop-condition in
    let q = c.deref-condition-items.result.now in let front = c.relay_if_far-front.result.0 in
    let start = front - c.code_len-size.result in
    let room = room_at _ _ _ _ _ _ c.loop-condition-test.true c.condition-item.is l.invariant.built l.invariant.free in
    let within = end_within l.end l.part q
    (omega (arith, c.requires.room, ap rule_length (c.deref-condition-items.ensures.value ∙ c.self.view_is))) l.invariant.free in
    let relay = c.relay_if_far-front.ensures in let size = c.code_len-size.ensures in
    let written = drop-written start front c.relay_if_far-front.new.part c.write.new.part (omega arith) (omega arith)
    ∙ ap (λ code. c.write.new.part ++ code) relay.code in
    let own = subst (λ d. IsConditionCode c.condition-item.result d c.write.new.part) relay.offset c.write.ensures.meets in
    let built : Built (take (l.condition-index + 1) q)
    (drop start (put_mid start (front - start) c.relay_if_far-front.new.part c.write.new.part))
    (c.relay_if_far-front.result.1 + c.code_len-size.result) =
    built_step q l.condition-index c.condition-item.result (drop l.end l.part) c.write.new.part
    _ l.offset _ c.loop-condition-test.true c.condition-item.is own written (omega (arith, relay.offset, size)) l.invariant.built in
    let outer = length-append c.write.new.part (relay_front l.offset ++ drop l.end l.part) in
    record {
      built = built;
      free = omega (arith, ap length written, outer, length-append (relay_front l.offset) (drop l.end l.part), own.long, l.invariant.free);
    }

pub copy_from_slice-requires : goal.copy_from_slice-requires
copy_from_slice-requires c = let l = c.loop-condition in
    let q = c.deref-condition-items.result.now in
    let some : 1 ≤ length q = omega (arith, ap length c.deref-condition-items.ensures.value, c.self.invariant) in
    let all = built_all q l.condition-index (drop l.end l.part) l.offset c.loop-condition-test.false l.invariant.built in
    let two : l.end ≡ 2 = entry_room q (drop l.end l.part) l.offset l.end some all l.invariant.free in
    let within = end_within l.end l.part q
    (omega (arith, c.requires.room, ap rule_length (c.deref-condition-items.ensures.value ∙ c.self.view_is))) l.invariant.free in
    length-take-le l.end l.part within ∙ two

pub returns : goal.returns
returns c = let l = c.loop-condition in
    let q = c.deref-condition-items.result.now in
    let some : 1 ≤ length q = omega (arith, ap length c.deref-condition-items.ensures.value, c.self.invariant) in
    let all = built_all q l.condition-index (drop l.end l.part) l.offset c.loop-condition-test.false l.invariant.built in
    let entry : c.copy_from_slice.new.self ≡ entry_code l.offset = c.copy_from_slice.ensures.after
    ∙ (λ i. c.bpf_stmt.ensures i ∷ (c.bpf_stmt-2.ensures ∙ ap (λ o. jump (o + 1)) c.from.ensures) i ∷ []) in
    let code = built_rule q (drop l.end l.part) (c.copy_from_slice.new.self ++ drop l.end l.part) l.offset some all
    (ap (λ e. e ++ drop l.end l.part) entry) in
    record { code = rw (← c.self.view_is, ← c.deref-condition-items.ensures.value) code }
