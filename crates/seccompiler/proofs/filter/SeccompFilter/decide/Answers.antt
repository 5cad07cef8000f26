use Rattle.std.proofs.Common.{rules}
use Rattle.seccompiler.specs.Policy.{IsDecision}
use Rattle.seccompiler.proofs.filter.Reordering.{same_decision}
use Rattle.seccompiler.proofs.filter.SeccompFilter.decide.Goals as goal

pub returns-then-matches : goal.returns-then-matches
returns-then-matches c = let decision : IsDecision c.args.self.now c.args.call.now c.into-then-matches.result = search rules in
    record {
      decision = decision;
      only = search rules;
      order = λ g s order same. same_decision c.args.self.now g c.args.call.now s _ order same decision;
    }

pub returns-else-matches : goal.returns-else-matches
returns-else-matches c = let decision : IsDecision c.args.self.now c.args.call.now c.into-else-matches.result = search rules in
    record {
      decision = decision;
      only = search rules;
      order = λ g s order same. same_decision c.args.self.now g c.args.call.now s _ order same decision;
    }
