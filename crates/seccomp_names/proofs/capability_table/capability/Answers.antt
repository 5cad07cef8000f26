use Rattle.std.proofs.Common.{All, subst}
use Rattle.std.specs.Prelude.{IfNone}
use Rattle.seccomp_names.specs.Capabilities.{IsCalled}
use Rattle.seccomp_names.proofs.capability_table.capability.Goals as goal

pub returns-clause-none : goal.returns-clause-none
returns-clause-none c = subst (λ names. IfNone c.called_in.result (All (λ own. IsCalled own c.args.name.now → ⊥) names))
    c.capabilities.ensures c.called_in.ensures.none
