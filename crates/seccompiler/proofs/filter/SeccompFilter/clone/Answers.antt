use Rattle.std.proofs.Common.{◌∙◌}
use Rattle.seccompiler.proofs.filter.Chains.{copied_chains}
use Rattle.seccompiler.proofs.filter.SeccompFilter.clone.Goals as goal

pub returns-in-Ok-clause-same : goal.returns-in-Ok-clause-same
returns-in-Ok-clause-same c = let same = copied_chains c.self.inside.rules.entries c.in-Ok.rules.entries c.in-Ok.ensures.cases in
    (λ i. record {
      chains = same i;
      mismatch_action = c.self.inside.mismatch_action;
      match_action = c.self.inside.match_action;
      target_arch = c.self.inside.target_arch;
    }) ∙ c.self.view_is
