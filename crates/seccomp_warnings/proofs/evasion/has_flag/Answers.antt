use Rattle.std.proofs.Common.{ℕ, List, Bool, Bor}
use Rattle.seccomp_warnings.specs.Evasions.{IsFlag}
use Rattle.seccomp_warnings.proofs.Listed.{any_from, any_here}
use Rattle.seccomp_warnings.proofs.evasion.has_flag.Goals as goal

abbrev read : Bor (List ℕ) × ℕ × ℕ × Bool → List ℕ × ℕ × ℕ
read row = (row.0.now, row.1, row.2)

pub returns-then-is_flag : goal.returns-then-is_flag
returns-then-is_flag c = λ yes.
    let P = IsFlag c.args.arch c.args.number c.args.index c.args.before c.args.after in
    any_from P read c.args.rows.now
    (any_here (λ row. P (read row)) c.args.rows.now c.loop-row.row-index _ c.loop-row-test.true (c.is_flag.ensures c.if-is_flag.true))
