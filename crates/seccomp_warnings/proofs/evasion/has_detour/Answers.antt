use Rattle.std.proofs.Common.{ℕ, List, Bor}
use Rattle.seccomp_warnings.specs.Evasions.{IsDetour}
use Rattle.seccomp_warnings.proofs.Listed.{any_from, any_here}
use Rattle.seccomp_warnings.proofs.evasion.has_detour.Goals as goal

abbrev read : Bor (List ℕ) × ℕ × ℕ × Bor (List ℕ) × ℕ × ℕ → List ℕ × ℕ × List ℕ × ℕ × ℕ
read row = (row.0.now, row.1, row.3.now, row.4, row.5)

pub returns-then-is_detour : goal.returns-then-is_detour
returns-then-is_detour c = λ yes.
    let P = IsDetour c.args.arch c.args.number c.args.index c.args.denied.now c.args.passed.now in
    any_from P read c.args.rows.now
    (any_here (λ row. P (read row)) c.args.rows.now c.loop-row.row-index _ c.loop-row-test.true (c.is_detour.ensures c.if-is_detour.true))
