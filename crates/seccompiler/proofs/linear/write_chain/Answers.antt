use Rattle.std.proofs.Common.{◌≡◌, ◌+◌, ◌<◌, ◌∷◌, [], ◌++◌, length, take, drop, set, refl, ap, ◌∙◌, arith}
use Rattle.std.proofs.lemmas.Bool.Decides.{nat_tests}
use Rattle.std.proofs.Math.ListN.{length-set}
use lib.Seq.{take_at}
use Rattle.seccompiler.specs.Code.{jump_equal}
use Rattle.seccompiler.specs.Policy.{Chain}
use Rattle.seccompiler.specs.Layout.{chain_length, rules_length}
use Rattle.seccompiler.proofs.Parts.{framed, length-part}
use Rattle.seccompiler.proofs.linear.OneChain.{chain_without, chain_with}
use Rattle.seccompiler.proofs.linear.write_chain.Goals as goal

-- a chain that has rules is two instructions longer than they are
some_length : (chain : Chain) → 0 < length chain → chain_length chain ≡ 2 + rules_length chain
some_length [] some = absurd (omega arith)
some_length (q ∷ chain) some = refl

-- one that has none takes five
empty_length : (chain : Chain) → length chain ≡ 0 → 5 ≡ chain_length chain
empty_length [] none = refl
empty_length (q ∷ chain) none = absurd (omega arith)

pub slice_bounds-copy_from_slice-end : goal.slice_bounds-copy_from_slice-end
slice_bounds-copy_from_slice-end c = omega (arith, c.requires.room, empty_length c.args.chain.now (grind (arith, nat_tests)))

pub returns-then-is_empty-clause-length : goal.returns-then-is_empty-clause-length
returns-then-is_empty-clause-length c = empty_length c.args.chain.now (grind (arith, nat_tests))

pub bounds-part-0 : goal.bounds-part-0
bounds-part-0 c = omega (arith, c.requires.room, some_length c.args.chain.now (grind (arith, nat_tests)))

pub write_rules-end-requires-clause-room : goal.write_rules-end-requires-clause-room
write_rules-end-requires-clause-room c = let first = set c.args.part.now 0 c.bpf_jump-2.result in
    let whole = some_length c.args.chain.now (grind (arith, nat_tests)) in
    let same = length-set c.args.part.now 0 c.bpf_jump-2.result in
    let lent = length-part 1 (length first) first (omega (arith, same, whole, c.requires.room)) (omega arith) in
    omega (arith, c.requires.room, whole, same, lent)

pub returns-clause-length : goal.returns-clause-length
returns-clause-length c =
    omega (arith, c.write_rules-end.ensures.length, some_length c.args.chain.now (grind (arith, nat_tests)))

pub returns-then-is_empty-clause-code : goal.returns-then-is_empty-clause-code
returns-then-is_empty-clause-code c = let none : length c.args.chain.now ≡ 0 = grind (arith, nat_tests) in
    let over = c.bpf_stmt-then-is_empty.ensures in let give = c.bpf_stmt-then-is_empty-2.ensures in
    let last = c.bpf_stmt-then-is_empty-3.ensures in
    chain_without c.args.number c.args.mismatch c.args.matched (omega arith) (omega arith) (omega arith) c.args.chain.now _ none
    (take_at c.copy_from_slice.new.self (drop 5 c.args.part.now) 5 (ap length c.copy_from_slice.ensures.after)
    ∙ c.copy_from_slice.ensures.after ∙ (λ i. c.bpf_jump.ensures i ∷ c.bpf_stmt.ensures i ∷ over i ∷ give i ∷ last i ∷ []))

pub returns-clause-code : goal.returns-clause-code
returns-clause-code c = let some : 0 < length c.args.chain.now = grind (arith, nat_tests) in
    let rules = take c.write_rules-end.result c.write_rules-end.new.part in
    let whole = some_length c.args.chain.now some in
    let first = set c.args.part.now 0 c.bpf_jump-2.result in
    let same : length first ≡ length c.args.part.now = length-set c.args.part.now 0 c.bpf_jump-2.result in
    let lent = length-part 1 (length first) first (omega (arith, same, c.requires.room)) (omega arith) in
    let long : length c.write_rules-end.new.part + 1 ≡ length c.args.part.now =
    omega (arith, c.write_rules-end.auto.part, lent, same, c.requires.room, whole) in
    let written = framed c.write_rules-end.result c.args.part.now c.write_rules-end.new.part
    c.bpf_jump-2.result c.bpf_stmt-2.result long (omega (arith, long, c.requires.room, whole, c.write_rules-end.ensures.length)) in
    chain_with c.args.number c.args.mismatch c.args.matched (omega arith) (omega arith)
    (omega arith) c.args.chain.now rules _ some c.write_rules-end.ensures.code
    (written ∙ ap (λ x. x ∷ (rules ++ c.bpf_stmt-2.result ∷ [])) c.bpf_jump-2.ensures
    ∙ ap (λ x. jump_equal c.args.number 0 1 ∷ (rules ++ x ∷ [])) c.bpf_stmt-2.ensures)
