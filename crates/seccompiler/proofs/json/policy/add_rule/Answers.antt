use Rattle.std.proofs.Common.{rules, w64, ap, ◌∙◌, unwrap_or}
use mir.Val.{SFits}
use Rattle.std.proofs.lemmas.Int.{to_z-of_z}
use Rattle.seccompiler.proofs.json.policy.EntryChains.{chain_with_rule}
use Rattle.seccompiler.proofs.json.policy.add_rule.Goals as goal

pub returns : goal.returns
returns c = (
  c.in_ok-rule.ensures.1,
  λ q.
      let fits : SFits w64 c.args.number = search rules in
      let written = simp to_z-of_z at (c.in_ok-rules.ensures.update.0 c.push.new.self) in
      let here = written.0 q in
      let found = simp to_z-of_z at (c.or_insert-chain.ensures.value ∙ ap (λ o. unwrap_or o c.new.result) c.in_ok-rules.ensures.value) in
      rw (← c.in_ok-rule.ensures.0) (chain_with_rule c.args.rules.now.entries _ c.args.number c.or_insert-chain.result.now c.push.new.self
      c.new.result c.in_ok-rule.rule q (search (rules, here)) found c.new.ensures.items c.in_ok-push.ensures.items),
)
