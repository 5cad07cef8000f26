use Rattle.std.proofs.Common.{◌≡◌, ℕ, List, Bor, drop, map}
use Rattle.std.specs.Map.{lookup}
use Rattle.std.specs.Str.{bytes_eq}
use Rattle.seccomp_names.proofs.errno_table.number_in.Given as goal

abbrev pub invariant-loop-error : goal.invariant-loop-error
invariant-loop-error l = lookup (bytes_eq l.text) (map (λ (error : Bor (List ℕ) × ℕ). (error.0.now, error.1)) (drop l.error-index l.errors))
    ≡ lookup (bytes_eq l.text) (map (λ (error : Bor (List ℕ) × ℕ). (error.0.now, error.1)) l.errors)
