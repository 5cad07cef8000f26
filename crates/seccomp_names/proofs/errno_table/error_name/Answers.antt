use Rattle.std.proofs.Common.{◌≡◌, ℕ, List, All, subst}
use Rattle.std.specs.Prelude.{IfNone}
use Rattle.seccomp_names.proofs.errno_table.error_name.Goals as goal

pub returns-clause-none : goal.returns-clause-none
returns-clause-none c = subst (λ names. IfNone c.name_in.result (All (λ (error : List ℕ × ℕ). error.1 ≡ c.args.number → ⊥) names))
    c.errors.ensures c.name_in.ensures.none
