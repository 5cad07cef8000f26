use Rattle.std.proofs.Common.{◌≡◌, ℕ, ◌+◌, ◌-◌, ◌≤◌, ◌++◌, ◌∷◌, [], List, length, take, sym, ap, ◌∙◌, arith}
use lib.Seq.{length-take-le}
use borrow.Rule.Slice.PartMut.{same_len_mid}
use Rattle.seccompiler.specs.declared.bpf.sock_filter.{sock_filter}
use Rattle.seccompiler.specs.Policy.{Chain, chains_of}
use Rattle.seccompiler.specs.Layout.{chain_length, chains_length}
use Rattle.seccompiler.specs.ChainCode.{IsChainsCode}
use Rattle.seccompiler.proofs.Parts.{length-part, take-front}
use Rattle.seccompiler.proofs.linear.AllChains.{chains_empty, chains_step, chains_room}
use Rattle.seccompiler.proofs.FoundChains.{MapEntry, key_fits, rest_step}
use Rattle.seccompiler.proofs.linear.write_chains.Goals as goal

-- there is room for a further chain
room : (entries done rest t : List MapEntry) (e : MapEntry) (items : Chain) (start mismatch matched : ℕ) (part whole : List sock_filter)
    → rest ≡ e ∷ t → done ++ rest ≡ entries → items ≡ e.1.items → IsChainsCode (chains_of done) mismatch matched (take start part)
    → start ≤ length part → length part ≡ length whole → chains_length (chains_of entries) ≤ length whole
    → start + chain_length items ≤ length part
room entries done rest t e items start mismatch matched part whole er ee ei code le same long =
    let start_is : start ≡ chains_length (chains_of done) = sym (length-take-le start part le) ∙ code.long in
    let fits = chains_room entries done rest t e start er ee start_is in
    let same_chain : chain_length items ≡ chain_length e.1.items = ap chain_length ei in
    omega arith

pub loop-number-init : goal.loop-number-init
loop-number-init c = record {
  done = [];
  rest = c.into_iter-number-iterator.ensures.into_iter_gives.0;
  made = chains_empty c.args.mismatch c.args.matched;
  within = omega arith;
}

pub call_number-requires : goal.call_number-requires
call_number-requires c = key_fits c.args.rules.now.entries c.loop-number.invariant.done c.loop-number.number-iterator c.next.new.self
    (c.in-Some.number.now, c.in-Some.chain.now) c.in-Some.ensures.steps c.loop-number.invariant.rest c.requires.numbers

pub loop-number-preserved : goal.loop-number-preserved
loop-number-preserved c = let l = c.loop-number in
    let fits = room c.args.rules.now.entries l.invariant.done l.number-iterator c.next.new.self
    (c.in-Some.number.now, c.in-Some.chain.now) c.deref.result.now l.start c.args.mismatch c.args.matched l.part c.args.part.now
    c.in-Some.ensures.steps l.invariant.rest c.deref.ensures.value l.invariant.made l.invariant.within l.auto.part
    (omega (arith, c.requires.room)) in
    let count = length l.part - l.start in let part = length-part l.start (length l.part) l.part l.invariant.within (omega arith) in
    let long : length c.write_chain-start.new.part ≡ count = omega (arith, c.write_chain-start.auto.part, part) in
    let written = take-front l.start c.write_chain-start.result l.part c.write_chain-start.new.part l.invariant.within
    (omega (arith, fits, c.write_chain-start.ensures.length, long)) in
    let kept = same_len_mid l.start count l.part c.write_chain-start.new.part (long ∙ sym part) in
    record {
      done = l.invariant.done ++ (c.in-Some.number.now, c.in-Some.chain.now) ∷ [];
      rest = rest_step c.args.rules.now.entries l.invariant.done l.number-iterator c.next.new.self
          (c.in-Some.number.now, c.in-Some.chain.now) c.in-Some.ensures.steps l.invariant.rest;
      made = chains_step l.invariant.done c.args.mismatch c.args.matched c.call_number.result c.in-Some.number.now c.in-Some.chain.now
          c.deref.result.now (take l.start l.part) (take c.write_chain-start.result c.write_chain-start.new.part) _ c.call_number.ensures
          c.deref.ensures.value c.write_chain-start.ensures.code written l.invariant.made;
      within = omega (arith, fits, c.write_chain-start.ensures.length, kept);
    }

pub write_chain-start-requires-clause-room : goal.write_chain-start-requires-clause-room
write_chain-start-requires-clause-room c = let l = c.loop-number in
    let fits = room c.args.rules.now.entries l.invariant.done l.number-iterator c.next.new.self
    (c.in-Some.number.now, c.in-Some.chain.now) c.deref.result.now l.start c.args.mismatch c.args.matched l.part c.args.part.now
    c.in-Some.ensures.steps l.invariant.rest c.deref.ensures.value l.invariant.made l.invariant.within l.auto.part
    (omega (arith, c.requires.room)) in
    omega (arith, fits, length-part l.start (length l.part) l.part l.invariant.within (omega arith))

pub write_chain-start-requires-clause-short : goal.write_chain-start-requires-clause-short
write_chain-start-requires-clause-short c = let l = c.loop-number in
    omega (arith, c.requires.short, l.auto.part, length-part l.start (length l.part) l.part l.invariant.within (omega arith))

pub overflow_add-start : goal.overflow_add-start
overflow_add-start c = let l = c.loop-number in
    let fits = room c.args.rules.now.entries l.invariant.done l.number-iterator c.next.new.self
    (c.in-Some.number.now, c.in-Some.chain.now) c.deref.result.now l.start c.args.mismatch c.args.matched l.part c.args.part.now
    c.in-Some.ensures.steps l.invariant.rest c.deref.ensures.value l.invariant.made l.invariant.within l.auto.part
    (omega (arith, c.requires.room)) in
    omega (arith, fits, c.write_chain-start.ensures.length, l.auto.part, c.requires.short)
