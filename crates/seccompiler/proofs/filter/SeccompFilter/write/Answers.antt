use Rattle.std.proofs.Common.{◌≡◌, ◌+◌, List, ◌++◌, Global, length, take, drop, refl, subst, true, false, arith, length-append, length-drop}
use Rattle.std.proofs.Common.{ℤ, ◌-◌, ◌<◌, ◌≤◌, [], ◌∷◌, Vec, All, set, sym, ap, ◌∙◌}
use Rattle.std.proofs.Math.ListN.{length-set}
use Rattle.std.proofs.lemmas.Bool.{false≢true}
use lib.Seq.{length-take-le}
use borrow.Rule.Slice.PartMut.{same_len_mid}
use Rattle.seccompiler.specs.declared.bpf.sock_filter.{sock_filter}
use Rattle.seccompiler.specs.Architecture.{audit_word}
use Rattle.seccompiler.specs.Code.{jump_equal, guard_code}
use Rattle.seccompiler.specs.Policy.{Rule, Chain, Filter, IsCallNumber, chains_of}
use Rattle.seccompiler.specs.Layout.{chains_length, counted_length_of, counted_length}
use Rattle.seccompiler.specs.Compiled.{numbers_of}
use Rattle.seccompiler.proofs.Parts.{four-written, headed, length-part}
use Rattle.seccompiler.proofs.ChainNumbers.{numbers_are_keys}
use Rattle.seccompiler.proofs.linear.Guarded.{words_of}
use Rattle.seccompiler.proofs.linear.WholeProgram.{written_full, written_empty}
use Rattle.seccompiler.proofs.CappedLengths.{counted_full, counted_empty}
use Rattle.seccompiler.proofs.filter.SeccompFilter.write.Goals as goal

-- a program has its guard and its last return
four : (chains : List (ℤ × Chain)) → 4 ≤ counted_length_of chains
four [] = omega arith
four (e ∷ chains) = omega arith

-- what is written of a filter that has chains has room for five instructions and theirs, and is as long as a program may be
lengths : {f : Filter} (g : Filter) (entries : List (ℤ × Vec Rule Global)) {front guard : List sock_filter} (xs : List sock_filter)
    (d : sock_filter) → chains_of entries ≡ f.chains → f ≡ g → (length entries ≡ 0 → false ≡ true) → length xs ≡ counted_length g
    → counted_length g ≤ 4096 → front ≡ guard → length guard ≡ 3 → let first = set (front ++ drop 3 xs) 3 d in
    (5 ≤ length first) × (length first ≤ 4096) × (length (take (length first - 1 - 4) (drop 4 first)) ≡ chains_length (chains_of entries))
lengths g entries {front} xs d same view some room few is three = let first = set (front ++ drop 3 xs) 3 d in
    let counted = counted_full entries g.chains (same ∙ ap (λ (f : Filter). f.chains) view)
    (let none = λ (e : length entries ≡ 0). false≢true (some e) in omega (arith, none)) in
    let whole : length first ≡ length xs = length-set (front ++ drop 3 xs) 3 d
    ∙ omega (arith, length-append front (drop 3 xs), length-drop 3 xs, ap length is, three, room, counted) in
    let part = length-part 4 (length first - 1) first (omega (arith, whole, room, counted)) (omega arith) in
    (omega (arith, whole, room, counted), omega (arith, whole, room, few), part ∙ omega (arith, whole, room, counted))

pub slice_bounds-copy_from_slice-end : goal.slice_bounds-copy_from_slice-end
slice_bounds-copy_from_slice-end c = omega (arith, c.requires.room, four c.args.self.now.chains)

pub copy_from_slice-requires : goal.copy_from_slice-requires
copy_from_slice-requires c =
    length-take-le 3 c.args.program.now (omega (arith, c.requires.room, four c.args.self.now.chains)) ∙ sym (ap length c.arch_guard.ensures)

pub returns-then-is_empty : goal.returns-then-is_empty
returns-then-is_empty c = let none : length c.self.inside.rules.entries ≡ 0 = c.if-is_empty.ensures.0 refl in
    let long : length c.args.program.now ≡ 4 =
    c.requires.room ∙ counted_empty c.self.inside.rules.entries _ (ap (λ (f : Filter). f.chains) c.self.view_is) none in
    let written = four-written c.copy_from_slice.new.self c.args.program.now _
    (jump_equal (audit_word c.args.self.now.target_arch) 1 0) _ c.bpf_stmt.result
    (c.copy_from_slice.ensures.after ∙ c.arch_guard.ensures ∙ ap
    (λ (f : Filter). guard_code (audit_word f.target_arch)) c.self.view_is) long in
    let words = words_of c.args.self.now c.self.inside.rules.entries
    c.self.inside.mismatch_action c.self.inside.match_action c.self.inside.target_arch
    c.from-mismatch.result _ c.self.view_is c.from-mismatch.ensures refl in
    record {
      compiled = written_empty c.args.self.now c.self.inside.rules.entries c.from-mismatch.result _ _ words none
          (written ∙ cc (c.bpf_stmt.ensures));
    }

pub overflow_sub-last : goal.overflow_sub-last
overflow_sub-last c = let s = lengths c.args.self.now c.self.inside.rules.entries c.args.program.now c.bpf_stmt-2.result refl c.self.view_is
    c.if-is_empty.ensures.1 c.requires.room c.requires.compilable.short c.copy_from_slice.ensures.after (ap length c.arch_guard.ensures) in
    omega (arith, s.0)

pub write_chains-requires-clause-room : goal.write_chains-requires-clause-room
write_chains-requires-clause-room c =
    (lengths c.args.self.now c.self.inside.rules.entries c.args.program.now c.bpf_stmt-2.result refl c.self.view_is
    c.if-is_empty.ensures.1 c.requires.room c.requires.compilable.short c.copy_from_slice.ensures.after (ap length c.arch_guard.ensures)).2

pub write_chains-requires-clause-short : goal.write_chains-requires-clause-short
write_chains-requires-clause-short c = let first = set (c.copy_from_slice.new.self ++ drop 3 c.args.program.now) 3 c.bpf_stmt-2.result in
    let s = lengths c.args.self.now c.self.inside.rules.entries c.args.program.now c.bpf_stmt-2.result refl c.self.view_is
    c.if-is_empty.ensures.1 c.requires.room c.requires.compilable.short c.copy_from_slice.ensures.after (ap length c.arch_guard.ensures) in
    omega (arith, s.0, s.1, length-part 4 (length first - 1) first (omega (arith, s.0)) (omega arith))

pub offset_bounds-program-last : goal.offset_bounds-program-last
offset_bounds-program-last c =
    let s = lengths c.args.self.now c.self.inside.rules.entries c.args.program.now c.bpf_stmt-2.result refl c.self.view_is
    c.if-is_empty.ensures.1 c.requires.room c.requires.compilable.short c.copy_from_slice.ensures.after (ap length c.arch_guard.ensures) in
    omega (arith, s.1)

pub bounds-program-last : goal.bounds-program-last
bounds-program-last c = let first = set (c.copy_from_slice.new.self ++ drop 3 c.args.program.now) 3 c.bpf_stmt-2.result in
    let s = lengths c.args.self.now c.self.inside.rules.entries c.args.program.now c.bpf_stmt-2.result refl c.self.view_is
    c.if-is_empty.ensures.1 c.requires.room c.requires.compilable.short c.copy_from_slice.ensures.after (ap length c.arch_guard.ensures) in
    omega (arith, s.0, same_len_mid 4 (length first - 1 - 4) first c.write_chains.new.part c.write_chains.auto.part)

pub write_chains-requires-clause-numbers : goal.write_chains-requires-clause-numbers
write_chains-requires-clause-numbers c =
    let same = sym (ap (λ (f : Filter). numbers_of f.chains) c.self.view_is) ∙ numbers_are_keys c.self.inside.rules.entries in
    subst (λ numbers. All IsCallNumber numbers) same c.requires.compilable.numbers

pub returns : goal.returns
returns c = let none = λ (none : length c.self.inside.rules.entries ≡ 0). false≢true (c.if-is_empty.ensures.1 none) in
    let some : 0 < length c.self.inside.rules.entries = omega (arith, none) in
    let counted = counted_full c.self.inside.rules.entries c.args.self.now.chains (ap (λ (f : Filter). f.chains) c.self.view_is) some in
    let long : length c.write_chains.new.part + 5 ≡ length c.args.program.now =
    omega (arith, c.write_chains.ensures.code.long, c.requires.room, counted) in
    let written = headed c.copy_from_slice.new.self c.args.program.now c.write_chains.new.part _
    (jump_equal (audit_word c.args.self.now.target_arch) 1 0) _ c.bpf_stmt-2.result c.bpf_stmt-3.result
    (c.copy_from_slice.ensures.after ∙ c.arch_guard.ensures ∙ ap
    (λ (f : Filter). guard_code (audit_word f.target_arch)) c.self.view_is) long in
    let words = words_of c.args.self.now c.self.inside.rules.entries c.self.inside.mismatch_action
    c.self.inside.match_action c.self.inside.target_arch c.from-mismatch.result c.into.result
    c.self.view_is c.from-mismatch.ensures c.into.ensures in
    record {
      compiled = written_full c.args.self.now c.self.inside.rules.entries c.from-mismatch.result c.into.result
          c.write_chains.new.part _ words some c.requires.compilable.short c.write_chains.ensures.code
          (written ∙ cc (c.bpf_stmt-2.ensures, c.from.ensures, c.bpf_stmt-3.ensures));
    }
