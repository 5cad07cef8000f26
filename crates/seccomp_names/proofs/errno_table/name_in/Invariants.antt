use Rattle.std.proofs.Common.{◌≡◌, All, Bor, List, take, ℕ}
use Rattle.seccomp_names.proofs.errno_table.name_in.Given as goal

abbrev pub invariant-loop-error : goal.invariant-loop-error
invariant-loop-error l = All (λ (error : Bor (List ℕ) × ℕ). error.1 ≡ l.number → ⊥) (take l.error-index l.errors)
