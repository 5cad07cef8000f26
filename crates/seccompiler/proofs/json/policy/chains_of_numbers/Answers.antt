use Rattle.std.proofs.Common.{rules, ◌≡◌, sym, ap, ◌∙◌, length, arith}
use Rattle.std.specs.BTreeMap.{IsFromIterResult}
use Rattle.std.specs.Ordering.{int_cmp}
use Rattle.seccompiler.specs.JsonGathered.{chain_of, rules_at}
use Rattle.seccompiler.proofs.ByName.{collected_of}
use Rattle.seccompiler.proofs.json.policy.EntryChains.{made_at, made_found, made_of_rules}
use Rattle.seccompiler.proofs.json.policy.ToldNumbers.{told_all, told_start}
use Rattle.std.proofs.lemmas.Grind.{common_steps}
use Rattle.seccompiler.proofs.json.policy.chains_of_numbers.Goals as goal

pub loop-number-init : goal.loop-number-init
loop-number-init c =
    let same : c.reserve.new.self.items ≡ c.args.gathered.rules.entries = search rules in
    λ q. ap (λ pairs. made_at pairs q) same ∙ made_of_rules c.args.gathered.rules c.into_iter.ensures.into_iter_gives.5 q
    ∙ ap (λ b. chain_of b (rules_at c.args.gathered q)) (sym (told_start c.args.gathered.always q))

pub returns : goal.returns
returns c =
    let told = c.args.gathered.always in
    let m = c.in_ok-collect.field-0 in
    let made : IsFromIterResult int_cmp c.loop-number.found.items m = rw c.in_ok-collect.was at (collected_of (IsFromIterResult int_cmp)
    c.loop-number.found _ _ c.into_iter-2.ensures.rest c.into_iter-2.ensures.len c.collect-2.ensures.ran) in
    let long : length told ≡ 463 = search rules in
    record {
      each = λ q. made_found c.loop-number.found.items m made q ∙ c.loop-number.invariant q
          ∙ ap (λ b. chain_of b (rules_at c.args.gathered q)) (told_all told _ q (omega (arith, long, c.loop-number-test.false)));
      ordered = made.1;
    }

pub loop-number-preserved : goal.loop-number-preserved
loop-number-preserved c = grind (arith, common_steps)
