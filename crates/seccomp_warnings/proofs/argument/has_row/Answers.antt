use Rattle.std.proofs.Common.{◌≡◌, ℕ, List, Bor}
use Rattle.seccomp_warnings.specs.CallWarnings.{IsNumberOf}
use Rattle.seccomp_warnings.proofs.Listed.{any_from, any_map}
use Rattle.seccomp_warnings.proofs.argument.has_row.Goals as goal

pub returns : goal.returns
returns c =
    let P = λ (row : List ℕ × ℕ). IsNumberOf c.args.arch row.0 c.args.number × (row.1 ≡ c.args.index) in
    let read : Bor (List ℕ) × ℕ → List ℕ × ℕ = λ row. (row.0.now, row.1) in
    (λ yes. any_from P read c.args.rows.now (c.is_listed.ensures.0 yes), λ is. c.is_listed.ensures.1 (any_map P read c.args.rows.now is))
