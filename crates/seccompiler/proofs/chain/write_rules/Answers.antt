use Rattle.std.proofs.Common.{◌≡◌, ℕ, ◌+◌, ◌-◌, ◌<◌, ◌≤◌, List, [], ◌∷◌, ◌++◌, length, take, get_or, sym, ◌∙◌, arith}
use Rattle.std.proofs.Math.ListN.{length-set}
use lib.Seq.{length-take-le}
use borrow.Rule.Slice.PartMut.{put_mid, same_len_mid}
use Rattle.seccompiler.specs.declared.bpf.sock_filter.{sock_filter}
use Rattle.seccompiler.specs.Policy.{Rule, Chain}
use Rattle.seccompiler.specs.Layout.{rule_length, rules_length}
use Rattle.seccompiler.specs.ChainCode.{IsRulesCode}
use Rattle.seccompiler.proofs.Parts.{take-written, length-part}
use Rattle.seccompiler.proofs.chain.RulesCode.{with_return, rules_empty, rules_step, rules_all, rules_room}
use Rattle.seccompiler.proofs.chain.write_rules.Goals as goal

-- there is room for a further rule and its return
room : (chain : Chain) (i start w : ℕ) (part : List sock_filter) (q : Rule) → i < length chain → q ≡ get_or chain i q
    → IsRulesCode (take i chain) w (take start part) → start ≤ length part → rules_length chain ≤ length part
    → start + rule_length q + 1 ≤ length part
room chain i start w part q within is code le fits =
    let start_is : start ≡ rules_length (take i chain) = sym (length-take-le start part le) ∙ code.long in
    omega (arith, fits, rules_room chain i start q within is start_is)

pub loop-rule-init : goal.loop-rule-init
loop-rule-init c = record { code = rules_empty c.args.matched; within = omega arith }

pub loop-rule-preserved : goal.loop-rule-preserved
loop-rule-preserved c = let l = c.loop-rule in let q = c.rule-item.result in let own = c.write.new.part in
    let end = l.start + c.code_len.result in
    let fits = room c.args.chain.now l.rule-index l.start c.args.matched l.part q c.loop-rule-test.true c.rule-item.is
    l.invariant.code l.invariant.within (omega (arith, c.requires.room, l.auto.part)) in
    let count : c.code_len.result ≡ rule_length q = omega (arith, c.code_len.ensures.length, fits, c.requires.short, l.auto.part) in
    let long : length own ≡ end - l.start = omega (arith, c.write.ensures.code.long, count) in
    let written = take-written l.start end l.part own c.bpf_stmt.result (omega arith) (omega (arith, fits, count)) long in
    let kept = same_len_mid l.start (end - l.start) l.part own
    (long ∙ sym (length-part l.start end l.part (omega arith) (omega (arith, fits, count)))) in
    record {
      code = rules_step c.args.chain.now l.rule-index c.args.matched q (take l.start l.part) (own ++ c.bpf_stmt.result ∷ []) _
          c.loop-rule-test.true c.rule-item.is
          (rw c.bpf_stmt.ensures (with_return q c.args.matched own (omega arith) c.write.ensures.code)) written l.invariant.code;
      within = omega (arith, fits, count, kept, length-set (put_mid l.start (end - l.start) l.part own) end c.bpf_stmt.result);
    }

pub returns : goal.returns
returns c = let l = c.loop-rule in
    let code = rules_all c.args.chain.now l.rule-index c.args.matched _ c.loop-rule-test.false l.invariant.code in
    record { length = sym (length-take-le l.start l.part l.invariant.within) ∙ code.long; code = code }
