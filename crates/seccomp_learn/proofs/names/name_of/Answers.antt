use Rattle.std.proofs.Common.{◌≡◌, ◌∙◌, Some, [], pos, ap, length, get_or, take, arith, rules, w64, map, to_z, of_z}
use mir.Val.{SFits}
use Rattle.std.proofs.lemmas.Grind.{common_steps}
use Rattle.std.proofs.lemmas.Int.{to_z-of_z}
use Rattle.std.proofs.lemmas.List.{get_or-map, length-map, take_all}
use Rattle.std.proofs.lemmas.List.Elements.{All-more}
use Rattle.seccompiler.specs.Architecture.{table_of}
use Rattle.seccompiler.specs.SyscallTable.{Pair, number_of}
use Rattle.seccomp_learn.proofs.TableNumbers.{no_name}
use Rattle.seccomp_learn.proofs.names.name_of.Goals as goal
use Rattle.seccomp_learn.proofs.names.name_of.Goals.{then-numbers-place+else-eq, else-numbers-place}

pub loop-place-preserved : goal.loop-place-preserved
loop-place-preserved c =
    let table = table_of c.args.arch in
    let d : Pair = ([], pos 0) in
    let same : c.numbers-numbers.result.now ≡ map (λ (pair : Pair). pair.1) table =
    c.numbers-numbers.ensures ∙ ap (λ arch. map (λ (pair : Pair). pair.1) (table_of arch)) c.new-table.ensures.arch in
    let many : length c.numbers-numbers.result.now ≡ length table = ap length same ∙ length-map table (λ pair. pair.1) in
    let read : get_or c.numbers-numbers.result.now c.loop-place.place (pos 0) ≡ (get_or table c.loop-place.place d).1 =
    ap (λ xs. get_or xs c.loop-place.place (pos 0)) same
    ∙ get_or-map (λ (pair : Pair). pair.1) table c.loop-place.place d (pos 0) (omega (arith, many, c.loop-place-test.true)) in
    let wanted = to_z w64 (of_z w64 c.from-wanted.result) in
    All-more (λ (pair : Pair). pair.1 ≡ wanted → number_of table pair.0 ≡ Some wanted → ⊥) table c.loop-place.place d
    (omega (arith, many, c.loop-place-test.true)) c.loop-place.invariant
    (elim c.if-numbers-place.branch [
      | then-numbers-place+else-eq w ↦ λ is named. grind (arith, common_steps, read, w.name-name.ensures d)
      | else-numbers-place w ↦ λ is named. grind (arith, common_steps, read)
    ])

pub returns-clause-none : goal.returns-clause-none
returns-clause-none c (name, is) =
    let table = table_of c.args.arch in
    let wanted = c.from-wanted.result in
    let fits : SFits w64 wanted = search rules in
    let same : c.numbers-numbers.result.now ≡ map (λ (pair : Pair). pair.1) table =
    c.numbers-numbers.ensures ∙ ap (λ arch. map (λ (pair : Pair). pair.1) (table_of arch)) c.new-table.ensures.arch in
    let many : length c.numbers-numbers.result.now ≡ length table = ap length same ∙ length-map table (λ pair. pair.1) in
    let whole : take c.loop-place.place table ≡ table = take_all _ _ (omega (arith, many, c.loop-place-test.false)) in
    let so_far = simp to_z-of_z at c.loop-place.invariant in
    let none = rw whole at so_far in
    let number : number_of table name ≡ Some wanted = cc in
    no_name table wanted none name number
