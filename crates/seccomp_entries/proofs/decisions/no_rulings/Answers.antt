use Rattle.std.proofs.Common.{◌≡◌, ◌∙◌, arith, subst}
use Rattle.std.proofs.lemmas.Grind.{common_steps}
use Rattle.std.specs.List.{range_with_len}
use Rattle.std.specs.Map.{keys_of}
use Rattle.seccomp_entries.proofs.decisions.Calls.{by_get, numbered_next}
use Rattle.seccomp_entries.proofs.decisions.no_rulings.Goals as goal

pub loop-number-preserved : goal.loop-number-preserved
loop-number-preserved c = record {
  numbers = numbered_next c.loop-number.number _ _ c.new.result c.in_ok-insert.ensures.entries c.loop-number.invariant.numbers;
  has = λ n less. grind (arith, common_steps, c.loop-number.invariant.has n);
  none = λ n. grind (arith, common_steps, c.loop-number.invariant.none n);
}

pub returns-clause-numbers : goal.returns-clause-numbers
returns-clause-numbers c =
    let end : c.loop-number.number ≡ 463 = omega arith in
    subst (λ n. keys_of c.loop-number.calls.entries ≡ range_with_len 0 n) end c.loop-number.invariant.numbers.all

pub returns-clause-none : goal.returns-clause-none
returns-clause-none c = λ n. by_get n c.loop-number.calls.entries ∙ c.loop-number.invariant.none n
