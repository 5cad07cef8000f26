use Rattle.std.proofs.Common.{◌≡◌, ◌∙◌, ◌<◌, List, [], ℕ, ℤ, ap, arith, get_or, length, map, pos, subst}
use Rattle.std.proofs.lemmas.Grind.{common_steps}
use Rattle.std.proofs.lemmas.List.{get_or-map, length-map}
use Rattle.seccompiler.specs.Architecture.{table_of}
use Rattle.seccompiler.specs.SyscallTable.{Pair}
use Rattle.seccompiler.specs.declared.backend.TargetArch.{TargetArch}
use Rattle.seccomp_answers.proofs.findings.Names.{name_from}
use Rattle.seccomp_answers.proofs.findings.parts.name_of.Goals as goal

-- A place of the numbers is one of the table, and has its number there.
module _ {own target : TargetArch} {numbers : List ℤ} (same : own ≡ target) (of : numbers ≡ map (λ pair. pair.1) (table_of own)) (place : ℕ)
    (within : place < length numbers) where
  rows : numbers ≡ map (λ (pair : Pair). pair.1) (table_of target)
  rows = of ∙ ap (λ a. map (λ (pair : Pair). pair.1) (table_of a)) same

  here : place < length (table_of target)
  here = subst (λ n. place < n) (ap length rows ∙ length-map (table_of target) (λ pair. pair.1)) within

  read : get_or numbers place (pos 0) ≡ (get_or (table_of target) place ([], pos 0)).1
  read = ap (λ xs. get_or xs place (pos 0)) rows ∙ get_or-map (λ (pair : Pair). pair.1) (table_of target) place ([], pos 0) (pos 0) here

pub loop-place-preserved : goal.loop-place-preserved
loop-place-preserved c =
    let place = c.loop-place.place in
    let within = here c.new-table.ensures.arch c.numbers-numbers.ensures place c.loop-place-test.true in
    let number = read c.new-table.ensures.arch c.numbers-numbers.ensures place c.loop-place-test.true in
    grind (arith, common_steps, name_from (table_of c.args.target) place ([], pos 0) c.args.number within, number, c.loop-place.invariant)

pub returns-then-numbers-place : goal.returns-then-numbers-place
returns-then-numbers-place c =
    let place = c.loop-place.place in
    let within = here c.new-table.ensures.arch c.numbers-numbers.ensures place c.loop-place-test.true in
    let number = read c.new-table.ensures.arch c.numbers-numbers.ensures place c.loop-place-test.true in
    grind (
      arith,
      common_steps,
      name_from (table_of c.args.target) place ([], pos 0) c.args.number within,
      number,
      c.loop-place.invariant,
      c.name.ensures ([], pos 0),
    )
