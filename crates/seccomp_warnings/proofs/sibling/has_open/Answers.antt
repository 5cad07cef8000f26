use Rattle.std.proofs.Common.{ℕ, List, Bor}
use Rattle.seccomp_warnings.specs.CallWarnings.{IsOpen}
use Rattle.seccomp_warnings.proofs.Listed.{any_from, any_map}
use Rattle.seccomp_warnings.proofs.sibling.has_open.Goals as goal

pub returns : goal.returns
returns c =
    let P = IsOpen c.args.part.now c.args.entry.now in
    let read : Bor (List ℕ) × Bor (List ℕ) → List ℕ × List ℕ = λ row. (row.0.now, row.1.now) in
    (λ yes. any_from P read c.args.rows.now (c.is_listed.ensures.0 yes), λ is. c.is_listed.ensures.1 (any_map P read c.args.rows.now is))
