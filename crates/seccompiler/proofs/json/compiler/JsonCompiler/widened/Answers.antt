use Rattle.std.proofs.lemmas.Result.{IfOk-weaker, on_ok_weaker}
use Rattle.seccompiler.proofs.json.policy.Policies.{both_made}
use Rattle.seccompiler.proofs.json.policy.WidenedNumbers.{alike_off, matches_on, keeps_matches}
use Rattle.seccompiler.proofs.json.compiler.JsonCompiler.widened.Goals as goal

pub returns : goal.returns
returns c =
    let arch = c.self.inside.arch in
    let filter = c.args.filter.now in
    let of = c.widened_numbers.ensures in
    rw (← c.self.view_is) (record {
      numbers = of.numbers;
      ascending = of.ascending;
      policies = on_ok_weaker c.widened_numbers.result (both_made arch filter) of.faultless;
      refusal = of.refused;
      same_elsewhere = IfOk-weaker _ _ _ (λ numbers. alike_off arch filter numbers.items) of.numbers;
      matches_there = IfOk-weaker _ _ _ (λ numbers. matches_on arch filter numbers.items) of.numbers;
      keeps_matches = keeps_matches arch filter;
    })
