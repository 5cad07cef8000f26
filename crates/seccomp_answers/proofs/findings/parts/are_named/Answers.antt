use Rattle.std.proofs.Common.{◌≡◌, List, ℤ, ap, arith, false, length, map, subst, true, ◌∙◌}
use Rattle.std.specs.Option.{is_some}
use Rattle.std.proofs.lemmas.List.{get_or-replicate, length-map, length-replicate, length-set, take_all}
use Rattle.seccompiler.specs.Architecture.{table_of}
use Rattle.seccompiler.specs.SyscallTable.{IsCallTable, Pair}
use Rattle.seccompiler.specs.declared.backend.TargetArch.{TargetArch}
use Rattle.seccomp_answers.specs.Findings.{name_of}
use Rattle.seccomp_answers.proofs.findings.Names.{is_converted, marked_more, number_is}
use Rattle.seccomp_answers.proofs.findings.parts.are_named.Goals as goal

-- The numbers of an architecture's table.
numbers_of : {own target : TargetArch} {numbers : List ℤ} → numbers ≡ map (λ pair. pair.1) (table_of own) → own ≡ target
    → numbers ≡ map (λ (pair : Pair). pair.1) (table_of target)
numbers_of of same = of ∙ ap (λ target. map (λ (pair : Pair). pair.1) (table_of target)) same

table : {own target : TargetArch} → own ≡ target → IsCallTable (table_of own) → IsCallTable (table_of target)
table same is = subst (λ target. IsCallTable (table_of target)) same is

pub loop-number-init : goal.loop-number-init
loop-number-init c = record {
  long = length-replicate 512 false;
  marked = λ n few. get_or-replicate 512 n false false few;
}

pub loop-number-preserved-in_default : goal.loop-number-preserved-in_default
loop-number-preserved-in_default c =
    absurd (is_converted c.numbers-number-items.result.now c.loop-number.number-index c.loop-number-test.true
    (table c.new.ensures.arch c.new.ensures.table) (numbers_of c.numbers-number-items.ensures c.new.ensures.arch) _ c.in_default.ensures)

pub bounds-named-number : goal.bounds-named-number
bounds-named-number c =
    let own = number_is c.numbers-number-items.result.now c.loop-number.number-index c.loop-number-test.true
    (table c.new.ensures.arch c.new.ensures.table) (numbers_of c.numbers-number-items.ensures c.new.ensures.arch) _
    c.in-Ok.number c.in-Ok.ensures.1 in
    omega (arith, own.1)

pub loop-number-preserved : goal.loop-number-preserved
loop-number-preserved c =
    let l = c.loop-number in
    record {
      long = length-set l.named c.in-Ok.number true ∙ l.invariant.long;
      marked = marked_more c.numbers-number-items.result.now l.number-index c.loop-number-test.true
          (table c.new.ensures.arch c.new.ensures.table) (numbers_of c.numbers-number-items.ensures c.new.ensures.arch) _
          l.named c.in-Ok.number l.invariant.long c.in-Ok.ensures.1 l.invariant.marked;
    }

pub returns : goal.returns
returns c n few =
    let l = c.loop-number in
    let rows = table_of c.args.target in
    let of = numbers_of c.numbers-number-items.ensures c.new.ensures.arch in
    let many : length c.numbers-number-items.result.now ≡ length rows = ap length of ∙ length-map rows (λ pair. pair.1) in
    l.invariant.marked n few
    ∙ ap (λ pairs. is_some (name_of pairs n)) (take_all l.number-index rows (omega (arith, many, c.loop-number-test.false)))
